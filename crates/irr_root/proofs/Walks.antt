-- The powers of a place, one after the other.
--   table-order-le                               the order of z is limited
--   Walked T g places exponents place exponent   the powers so far, none but the first at the unit, and the next one
--   walked-first, walked-step                    the first power, and one more
--   walked-lt                                    the next one is a place
--   walked-length                                there are at most as many as the order of z
--   walked-exponent                              the exponent of the next one is small
--   powers-length, powers-place-lt, powers-turned-le    sizes of all powers
--   walked-done                                  all powers, where the next one is at the unit
use Rattle.std.proofs.Common.{◌≡◌, sym, ◌∙◌, ap, refl, subst, ℕ, zero, suc, ◌<◌, ◌≤◌, ◌+◌, ◌-◌, ◌*◌, List, [], ◌∷◌, ◌++◌, length, get_or, slice_index, add-one, arith}
use Rattle.std.specs.Int.{◌∣◌}
use native.Mathlib.Decide.{dec_le}
use native.Mathlib.Nat as Nat
use Rattle.std.proofs.Math.ListN.{get_or-append, length-append}
use Rattle.std.proofs.Math.Seq.{get_or-append_seam}
use Rattle.irr_algebra.specs.Fin.{Fin, to_nat}
use Rattle.irr_algebra.proofs.Indices.{to_nat-lt, to_nat_inj}
use Rattle.irr_space.specs.PhaseTable.{PhaseTable, IsPlaceOrder, place_power, exponents_below}
use Rattle.irr_rep.specs.declared.table.Twisted.{Twisted}
use Rattle.irr_rep.specs.Twisted.{phase_table, table_of}
use Rattle.irr_rep.proofs.ElementOrders.{place_order}
use Rattle.irr_root.specs.Powers.{ArePowers}

pub table-order-le : (t : Twisted) → (phase_table t).order ≤ 12000
unfolding phase_table table_of
table-order-le t = t.order_within

module _ {h : ℕ} (T : PhaseTable h) (g : Fin h) where
  abbrev pub walk_place : ℕ → Fin h
  walk_place = place_power T.start T.product g

  abbrev pub walk_exponent : ℕ → ℕ
  walk_exponent = exponents_below T.start T.product T.exponent g

  pub record Walked (places exponents : List ℕ) (place exponent : ℕ) : Type 0 where
    pub positive : 0 < length places
    pub same_length : length exponents ≡ length places
    pub place-at : (j : ℕ) → j < length places → slice_index places j ≡ to_nat (walk_place j)
    pub exponent-at : (j : ℕ) → j < length places → slice_index exponents j ≡ walk_exponent j
    pub next_place : place ≡ to_nat (walk_place (length places))
    pub next_exponent : exponent ≡ walk_exponent (length places)
    pub not_back : (j : ℕ) → 0 < j → j < length places → walk_place j ≡ T.start → ⊥

  pub walked-first : Walked (0 ∷ []) (0 ∷ []) (to_nat g) 0
  unfolding place_power exponents_below
  walked-first = record {
    positive = omega arith;
    same_length = refl;
    place-at = λ j l. first_place j l;
    exponent-at = λ j l. first_exponent j l;
    next_place = sym (ap to_nat (T.product-start g));
    next_exponent = sym (T.exponent-start g) ∙ sym (Nat.zero-add (T.exponent g T.start));
    not_back = λ j p l e. absurd (omega (arith, p, l));
  }
    where
      first_place : (j : ℕ) → j < 1 → slice_index (0 ∷ []) j ≡ to_nat (walk_place j)
      first_place zero l = sym T.start_first
      first_place (suc j) l = absurd (omega arith)

      first_exponent : (j : ℕ) → j < 1 → slice_index (0 ∷ []) j ≡ walk_exponent j
      first_exponent zero l = refl
      first_exponent (suc j) l = absurd (omega arith)

  pub walked-lt : {ps es : List ℕ} {place exponent : ℕ} → Walked ps es place exponent → place < h
  walked-lt {ps} w = subst (λ k. k < h) (sym w.next_place) (to_nat-lt (walk_place (length ps)))

  -- the bound on how many there are
  pub walked-length : {ps es : List ℕ} {place exponent : ℕ} → Walked ps es place exponent → length ps ≤ T.order
  walked-length {ps} w =
      let m : (m : ℕ) × IsPlaceOrder T.start T.product g m = place_order T g in
      let within : m.0 ≤ T.order = Nat.le_of_dvd T.order_positive (T.order_divides g m.0 m.1) in
      Nat.le_trans (short m.0 m.1 (dec_le (length ps) m.0)) within
    where
      short : (m : ℕ) → IsPlaceOrder T.start T.product g m → Dec (length ps ≤ m) → length ps ≤ m
      short m o (yes l) = l
      short m o (no l) = absurd (w.not_back m o.positive (omega (arith, l)) o.power)

  exponent-le : (j : ℕ) → walk_exponent j ≤ j * T.order
  unfolding exponents_below
  exponent-le zero = omega arith
  exponent-le (suc j) =
      let before : walk_exponent j ≤ j * T.order = exponent-le j in
      let here : T.exponent g (walk_place j) < T.order = T.exponent_below g (walk_place j) in
      let more : suc j * T.order ≡ j * T.order + T.order = Nat.suc-mul j T.order in
      omega (arith, before, here, more)

  pub walked-exponent : {ps es : List ℕ} {place exponent : ℕ} → Walked ps es place exponent → exponent ≤ T.order * T.order
  walked-exponent {ps} w = subst (λ e. e ≤ T.order * T.order) (sym w.next_exponent)
      (Nat.le_trans (exponent-le (length ps)) (Nat.mul-le-mul_right T.order (walked-length w)))

  -- a list with one more number
  read_last : (xs : List ℕ) (x : ℕ) (f : ℕ → ℕ) → ((j : ℕ) → j < length xs → slice_index xs j ≡ f j) → x ≡ f (length xs)
      → (j : ℕ) → j < length (xs ++ x ∷ []) → slice_index (xs ++ x ∷ []) j ≡ f j
  read_last xs x f before here j l = cases (dec_le (suc j) (length xs))
    where
      cases : Dec (suc j ≤ length xs) → slice_index (xs ++ x ∷ []) j ≡ f j
      cases (yes s) = get_or-append xs (x ∷ []) 0 j s ∙ before j s
      cases (no s) =
          let total : length (xs ++ x ∷ []) ≡ length xs + 1 = length-append xs (x ∷ []) in
          let is : j ≡ length xs = omega (arith, total, l, s) in
          ap (λ k. get_or (xs ++ x ∷ []) k 0) is ∙ get_or-append_seam xs x [] 0 ∙ here ∙ ap f (sym is)

  pub walked-step : {ps es : List ℕ} {place exponent : ℕ} → Walked ps es place exponent → (place ≡ 0 → ⊥)
      → Walked (ps ++ place ∷ []) (es ++ exponent ∷ []) (to_nat (T.product g (walk_place (length ps)))) (exponent + T.exponent g (walk_place (length ps)))
  unfolding place_power exponents_below
  walked-step {ps} {es} {place} {exponent} w away = record {
    positive = omega (arith, longer);
    same_length = length-append es (exponent ∷ []) ∙ ap (λ k. k + 1) w.same_length ∙ sym longer;
    place-at = read_last ps place (λ j. to_nat (walk_place j)) w.place-at w.next_place;
    exponent-at = λ j l. read_last es exponent walk_exponent (λ k m. w.exponent-at k (subst (λ n. k < n) w.same_length m)) (w.next_exponent ∙ ap walk_exponent (sym w.same_length)) j
        (subst (λ n. j < n) (longer ∙ ap (λ k. k + 1) (sym w.same_length) ∙ sym (length-append es (exponent ∷ []))) l);
    next_place = ap (λ k. to_nat (walk_place k)) (sym (longer ∙ add-one (length ps)));
    next_exponent = ap (λ e. e + T.exponent g (walk_place (length ps))) w.next_exponent ∙ ap walk_exponent (sym (longer ∙ add-one (length ps)));
    not_back = λ j p l e. cases j p l e (dec_le (suc j) (length ps));
  }
    where
      longer : length (ps ++ place ∷ []) ≡ length ps + 1
      longer = length-append ps (place ∷ [])

      cases : (j : ℕ) → 0 < j → j < length (ps ++ place ∷ []) → walk_place j ≡ T.start → Dec (suc j ≤ length ps) → ⊥
      cases j p l e (yes s) = w.not_back j p s e
      cases j p l e (no s) =
          let is : j ≡ length ps = omega (arith, longer, l, s) in
          away (w.next_place ∙ ap (λ k. to_nat (walk_place k)) (sym is) ∙ ap to_nat e ∙ T.start_first)

  pub walked-done : {ps es : List ℕ} {place exponent : ℕ} → Walked ps es place exponent → place ≡ 0 → ArePowers T g ps es exponent
  walked-done {ps} w back = record {
    is_order = record {
      positive = w.positive;
      power = to_nat_inj (walk_place (length ps)) T.start (sym w.next_place ∙ back ∙ sym T.start_first);
      least = λ n p e. least n p e (dec_le (length ps) n);
    };
    same_length = w.same_length;
    place = w.place-at;
    exponent = w.exponent-at;
    turn_exponent = w.next_exponent;
  }
    where
      least : (n : ℕ) → 0 < n → walk_place n ≡ T.start → Dec (length ps ≤ n) → length ps ≤ n
      least n p e (yes l) = l
      least n p e (no l) = absurd (w.not_back n p (omega (arith, l)) e)

  -- what all powers are
  module _ {ps es : List ℕ} {turn : ℕ} (w : ArePowers T g ps es turn) where
    pub powers-length : length ps ≤ T.order
    powers-length = Nat.le_of_dvd T.order_positive (T.order_divides g (length ps) w.is_order)

    pub powers-divide-order : length ps ∣ T.order
    powers-divide-order = T.order_divides g (length ps) w.is_order

    pub powers-divide-turn : length ps ∣ turn
    powers-divide-turn = subst (λ k. length ps ∣ k) (sym w.turn_exponent) (T.exponents_divided g (length ps) w.is_order)

    pub powers-place-lt : (j : ℕ) → j < length ps → slice_index ps j < h
    powers-place-lt j l = subst (λ k. k < h) (sym (w.place j l)) (to_nat-lt (walk_place j))

    pub powers-turned-le : (j e : ℕ) → j < length ps → e ≤ T.order → slice_index es j + (T.order - e) * j ≤ T.order * T.order + T.order * T.order
    powers-turned-le j e l m =
        let early : j ≤ T.order = let few : length ps ≤ T.order = powers-length in omega (arith, l, few) in
        let first : walk_exponent j ≤ T.order * T.order = Nat.le_trans (exponent-le j) (Nat.mul-le-mul_right T.order early) in
        let second : (T.order - e) * j ≤ T.order * T.order = Nat.mul-le-mul (let s : T.order - e ≤ T.order = omega arith in s) early in
        omega (arith, w.exponent j l, first, second)
