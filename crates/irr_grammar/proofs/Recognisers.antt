-- Grammars whose texts are recognised from left to right.
--   Recogniser A             states, the first of them, at most one next state for an item, and which states end a text
--   state_after M s xs       the state that the items xs lead to from the state s, if each has a next state
--   Ends M s xs              xs leads from s to a state that ends a text
--   Recognises M G           the grammar G has exactly the texts that lead to an end, and each state leads to one
--   state_after-none, state_after-one     no item, and one
--   state_after-then         a text and a text behind it
--   state_after-stops        what leads to no state leads to none whatever follows
--   ends-then, ends-step     what leads to a state that leads to an end
--   ends-described           a description of the texts that end, state by state
--   begins-runs, runs-begins   a text begins one of the grammar exactly where it leads to some state
--   grammar-end              a text that leads to a state is of the grammar exactly where this state is an end
--   place-stopped            the shape place is where no next state is
--   place-whole              and the length of a text that leads to some state
--   place-exists             each text has a shape place
--   state_after-more         one item more
--   state_after-digits       digits that keep a state
use Rattle.std.proofs.Common.{◌≡◌, refl, sym, ◌∙◌, ap, subst, ℕ, suc, ◌<◌, ◌≤◌, ◌+◌, List, [], ◌∷◌, ◌++◌, length, get_or, take, drop, Option, None, Some, option_and_then, arith, ◌⊎◌, inl, inr, add-one}
use Rattle.std.specs.Char.{digit_value}
use Rattle.std.specs.Str.Parse.{AllDigits}
use Rattle.std.proofs.Math.Seq.{take-suc, take-length}
use Rattle.std.proofs.lemmas.Bool.{cases_lt}
use Rattle.std.proofs.lemmas.List.{take-append-drop, take-take}
use Rattle.irr_grammar.specs.ShapePlace.{BeginsIn, IsShapePlace}

pub record Recogniser (A : Type 0) : Type 1 where
  pub State : Type 0
  pub start : State
  pub step : State → A → Option State
  pub IsEnd : State → Type 0

unfoldable pub state_after : {A : Type 0} (M : Recogniser A) → M.State → List A → Option M.State
state_after M s [] = Some s
state_after M s (x ∷ xs) = option_and_then (λ t. state_after M t xs) (M.step s x)

pub record Ends {A : Type 0} (M : Recogniser A) (s : M.State) (xs : List A) : Type 0 where
  pub last : M.State
  pub leads : state_after M s xs ≡ Some last
  pub is_end : M.IsEnd last

pub record Recognises {A : Type 0} (M : Recogniser A) (G : List A → Type 0) : Type 0 where
  pub ends : (xs : List A) → G xs → Ends M M.start xs
  pub only : (xs : List A) → Ends M M.start xs → G xs
  pub rest : M.State → List A
  pub completes : (s : M.State) → Ends M s (rest s)

module _ {A : Type 0} (M : Recogniser A) where
  step_then : (s t : M.State) (x : A) (xs : List A) → M.step s x ≡ Some t → state_after M s (x ∷ xs) ≡ state_after M t xs
  unfolding state_after
  step_then s t x xs e = ap (option_and_then (λ u. state_after M u xs)) e

  step_stops : (s : M.State) (x : A) (xs : List A) → M.step s x ≡ None → state_after M s (x ∷ xs) ≡ None
  unfolding state_after
  step_stops s x xs e = ap (option_and_then (λ u. state_after M u xs)) e

  pub state_after-none : (s : M.State) → state_after M s [] ≡ Some s
  unfolding state_after
  state_after-none s = refl

  pub state_after-one : (s : M.State) (x : A) → state_after M s (x ∷ []) ≡ M.step s x
  unfolding state_after
  state_after-one s x = same (M.step s x)
    where
      same : (o : Option M.State) → option_and_then Some o ≡ o
      same None = refl
      same (Some t) = refl

  -- an item either has a next state or has none
  step_cases : (s : M.State) (x : A) → ((t : M.State) × (M.step s x ≡ Some t)) ⊎ (M.step s x ≡ None)
  step_cases s x = of_option (M.step s x) refl
    where
      of_option : (o : Option M.State) → M.step s x ≡ o → ((t : M.State) × (M.step s x ≡ Some t)) ⊎ (M.step s x ≡ None)
      of_option None e = inr e
      of_option (Some t) e = inl (t, e)

  pub state_after-then : (xs ys : List A) (s t : M.State) → state_after M s xs ≡ Some t → state_after M s (xs ++ ys) ≡ state_after M t ys
  unfolding state_after
  state_after-then [] ys s t e = let same : s ≡ t = cc in ap (λ u. state_after M u ys) same
  state_after-then (x ∷ xs) ys s t e = elim (step_cases s x) [
    | inl w ↦ step_then s w.0 x (xs ++ ys) w.1 ∙ state_after-then xs ys w.0 t (sym (step_then s w.0 x xs w.1) ∙ e)
    | inr n ↦ (let none : state_after M s (x ∷ xs) ≡ None = step_stops s x xs n in absurd (cc))
  ]

  pub ends-then : (xs ys : List A) (s t : M.State) → state_after M s xs ≡ Some t → Ends M t ys → Ends M s (xs ++ ys)
  ends-then xs ys s t e h = record { last = h.last; leads = state_after-then xs ys s t e ∙ h.leads; is_end = h.is_end }

  pub ends-step : (x : A) (xs : List A) (s t : M.State) → M.step s x ≡ Some t → Ends M t xs → Ends M s (x ∷ xs)
  ends-step x xs s t e h = record { last = h.last; leads = step_then s t x xs e ∙ h.leads; is_end = h.is_end }

  -- a front that leads to no state does so whatever follows
  pub state_after-stops : (xs ys : List A) (s : M.State) → state_after M s xs ≡ None → state_after M s (xs ++ ys) ≡ None
  unfolding state_after
  state_after-stops [] ys s e = absurd (cc)
  state_after-stops (x ∷ xs) ys s e = elim (step_cases s x) [
    | inl w ↦ step_then s w.0 x (xs ++ ys) w.1 ∙ state_after-stops xs ys w.0 (sym (step_then s w.0 x xs w.1) ∙ e)
    | inr n ↦ step_stops s x (xs ++ ys) n
  ]

  -- what is said of the texts that end, from each state: of none where the state is an end, and of one item more
  pub ends-described : (L : M.State → List A → Type 0) → ((s : M.State) → M.IsEnd s → L s [])
      → ((s t : M.State) (x : A) (xs : List A) → M.step s x ≡ Some t → L t xs → L s (x ∷ xs)) → (xs : List A) (s : M.State) → Ends M s xs → L s xs
  unfolding state_after
  ends-described L none more [] s h = let same : s ≡ h.last = cc (h.leads) in none s (subst M.IsEnd (sym same) h.is_end)
  ends-described L none more (x ∷ xs) s h = elim (step_cases s x) [
    | inl w ↦ more s w.0 x xs w.1 (ends-described L none more xs w.0 (record { last = h.last; leads = sym (step_then s w.0 x xs w.1) ∙ h.leads; is_end = h.is_end }))
    | inr n ↦ (let nowhere : state_after M s (x ∷ xs) ≡ None = step_stops s x xs n in absurd (cc (h.leads)))
  ]

  module _ (G : List A → Type 0) (grammar : Recognises M G) where
    pub runs-begins : (xs : List A) (s : M.State) → state_after M M.start xs ≡ Some s → BeginsIn G xs
    runs-begins xs s e = (grammar.rest s, grammar.only (xs ++ grammar.rest s) (ends-then xs (grammar.rest s) M.start s e (grammar.completes s)))

    -- a text with a front that leads to no state begins none of the grammar
    pub stops-begins : (xs : List A) → state_after M M.start xs ≡ None → ¬ (BeginsIn G xs)
    stops-begins xs e b =
        let h : Ends M M.start (xs ++ b.0) = grammar.ends (xs ++ b.0) b.1 in
        let none : state_after M M.start (xs ++ b.0) ≡ None = state_after-stops xs b.0 M.start e in
        absurd (cc (h.leads))

    -- a text that leads to a state is of the grammar exactly where the state ends a text
    pub grammar-end : (xs : List A) (s : M.State) → state_after M M.start xs ≡ Some s → (M.IsEnd s → G xs) × (G xs → M.IsEnd s)
    grammar-end xs s e = (λ h. grammar.only xs (record { last = s; leads = e; is_end = h }), of_text)
      where
        of_text : G xs → M.IsEnd s
        of_text g = let h : Ends M M.start xs = grammar.ends xs g in let same : h.last ≡ s = cc (h.leads) in subst M.IsEnd same h.is_end

    pub place-whole : (xs : List A) (s : M.State) → state_after M M.start xs ≡ Some s → IsShapePlace G xs (length xs)
    place-whole xs s e = record { within = omega arith; begins = subst (BeginsIn G) (sym (take-length xs)) (runs-begins xs s e); longest = λ m le b. le }

    pub place-stopped : (xs : List A) (i : ℕ) (s : M.State) (d : A) → i < length xs → state_after M M.start (take i xs) ≡ Some s → M.step s (get_or xs i d) ≡ None → IsShapePlace G xs i
    place-stopped xs i s d lt e stop = record { within = omega arith; begins = runs-begins (take i xs) s e; longest = longest }
      where
        stopped : state_after M M.start (take (suc i) xs) ≡ None
        stopped = ap (state_after M M.start) (take-suc xs i d lt) ∙ state_after-then (take i xs) (get_or xs i d ∷ []) M.start s e ∙ state_after-one s (get_or xs i d) ∙ stop

        past : (m : ℕ) → suc i ≤ m → ¬ (BeginsIn G (take m xs))
        past m le = stops-begins (take m xs) (ap (state_after M M.start) (sym (take-append-drop (suc i) (take m xs))) ∙ state_after-stops (take (suc i) (take m xs)) (drop (suc i) (take m xs)) M.start
            (ap (state_after M M.start) (take-take (suc i) m xs le) ∙ stopped))

        longest : (m : ℕ) → m ≤ length xs → BeginsIn G (take m xs) → m ≤ i
        longest m le b = elim (cases_lt i m) [ inl l ↦ absurd (past m (omega arith) b) | inr g ↦ g ]

  -- one item more
  pub state_after-more : (xs : List A) (i : ℕ) (s : M.State) (d : A) → i < length xs → state_after M M.start (take i xs) ≡ Some s
      → state_after M M.start (take (i + 1) xs) ≡ M.step s (get_or xs i d)
  state_after-more xs i s d lt e = rw add-one (ap (state_after M M.start) (take-suc xs i d lt) ∙ state_after-then (take i xs) (get_or xs i d ∷ []) M.start s e ∙ state_after-one s (get_or xs i d))

  -- where a text stops, if it does
  stop_of : (xs : List A) (s : M.State) → ((t : M.State) × (state_after M s xs ≡ Some t))
      ⊎ ((i : ℕ) × (t : M.State) × (i < length xs) × (state_after M s (take i xs) ≡ Some t) × ((d : A) → M.step t (get_or xs i d) ≡ None))
  unfolding state_after
  stop_of [] s = inl (s, refl)
  stop_of (x ∷ xs) s = elim (step_cases s x) [
    | inl w ↦ (elim (stop_of xs w.0) [
      | inl r ↦ inl (r.0, step_then s w.0 x xs w.1 ∙ r.1)
      | inr r ↦ inr (suc r.0, r.1, omega (arith, r.2), step_then s w.0 x (take r.0 xs) w.1 ∙ r.3, r.4)
    ])
    | inr n ↦ inr (0, s, omega arith, refl, λ d. n)
  ]

  pub place-exists : (G : List A → Type 0) → Recognises M G → (xs : List A) → (n : ℕ) × IsShapePlace G xs n
  unfolding state_after
  place-exists G grammar [] = (0, place-whole G grammar [] M.start refl)
  place-exists G grammar (x ∷ xs) = elim (stop_of (x ∷ xs) M.start) [
    | inl r ↦ (length (x ∷ xs), place-whole G grammar (x ∷ xs) r.0 r.1)
    | inr r ↦ (r.0, place-stopped G grammar (x ∷ xs) r.0 r.1 x r.2 r.3 (r.4 x))
  ]

-- digits that keep a state
pub state_after-digits : (M : Recogniser ℕ) (s : M.State) → ((c : ℕ) → digit_value c < 10 → M.step s c ≡ Some s) → (ds : List ℕ) → AllDigits 10 ds → state_after M s ds ≡ Some s
unfolding state_after
state_after-digits M s keeps [] all = refl
state_after-digits M s keeps (d ∷ ds) all = ap (option_and_then (λ u. state_after M u ds)) (keeps d all.0) ∙ state_after-digits M s keeps ds all.1
