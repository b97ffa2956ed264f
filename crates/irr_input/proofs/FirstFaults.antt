-- What lines say, and where they stop.
--   Fits s line            the line may follow what says s, and is right as one of its sort
--   adds_fits              a line that adds something is such a line
--   adds_unique            it adds one thing
--   wrong_or_adds, wrong_unique     a faulty line adds nothing, and has one fault
--   Halts s rest           nothing is added to s by the first line of the rest
--   halts_once             lines stop at one place, where they say one thing
use Rattle.std.proofs.Common.{◌≡◌, refl, sym, ◌∙◌, ap, subst, ℕ, ℤ, zero, suc, ◌<◌, List, [], ◌∷◌, ◌++◌, ◌⊎◌, inl, inr, arith}
use Rattle.irr_grammar.proofs.ShapePlaces.{place_unique}
use Rattle.irr_lines.specs.Lines.{IsFirstLine}
use Rattle.irr_lines.proofs.FirstLines.{first_unique}
use Rattle.irr_algebra.specs.Matrix.{Matrix}
use Rattle.irr_rational.specs.Rational.{rationals}
use Rattle.irr_space.specs.Operation.{Operation, Vector}
use Rattle.irr_rat.specs.declared.vec3.Vec3.{Vec3}
use Rattle.irr_triplet.specs.TripletFault.{IsFault, IsTextOf}
use Rattle.irr_triplet.specs.declared.reading.TripletError.{TripletError}
use Rattle.irr_triplet.specs.declared.reading.TripletError.TheVariants as triplets
use Rattle.irr_triplet.proofs.OneFault.{fault_none, fault_unique}
use Rattle.irr_triplet.proofs.OneTriplet.{operation_unique}
use Rattle.irr_setting_text.specs.SettingFault.{IsBasisText, IsOriginText}
use Rattle.irr_input.specs.declared.keyword.Keyword.TheVariants.{Subgroup, Basis, Origin, Report as ReportWord}
use Rattle.irr_input.specs.declared.input.Reason.{Reason}
use Rattle.irr_input.specs.declared.input.Reason.TheVariants.{Shape, Zero, Range, Determinant, Missing, Report, Singular, NotInGroup}
use Rattle.irr_input.specs.SectionLines.{Begins, LineSort, IsOfSort, IsSubgroupText, HasFault, setting_reason, IsOwnFault}
use Rattle.irr_input.specs.SectionLines.LineSort.{skipped, triplet, section}
use Rattle.irr_input.specs.Stages.{placed_at, setting_at, with_generator, Said, MayStand, Adds, Reaches, IsWrong}
use Rattle.irr_input.specs.Stages.Said.{group, begun, based, complete}
use Rattle.irr_input.specs.Stages.Adds.{nothing, generator, subgroup, basis, origin, sub_generator}
use Rattle.irr_input.specs.Stages.Reaches.{start, more}
use Rattle.irr_input.specs.Stages.IsWrong.{misplaced, faulty}
use Rattle.irr_input.proofs.SectionWords.{sort_unique}
use Rattle.irr_input.proofs.SettingLaws.{basis_unique, origin_unique, basis_fault_unique, origin_fault_unique, basis_or_fault, origin_or_fault}

-- the reasons of lines that are no triplets

error_of : Reason → TripletError
error_of (Shape p) = triplets.Shape p
error_of (Zero p) = triplets.Zero p
error_of (Range p) = triplets.Range p
error_of Determinant = triplets.Determinant
error_of Missing = triplets.Determinant
error_of Report = triplets.Determinant
error_of Singular = triplets.Determinant
error_of NotInGroup = triplets.Determinant

reason_of : TripletError → Reason
reason_of (triplets.Shape p) = Shape p
reason_of (triplets.Zero p) = Zero p
reason_of (triplets.Range p) = Range p
reason_of triplets.Determinant = Determinant

back : (line : List ℕ) (r : Reason) → HasFault line r → reason_of (error_of r) ≡ r
unfolding reason_of error_of
back line (Shape p) h = refl
back line (Zero p) h = refl
back line (Range p) h = refl
back line Determinant h = refl
back line Missing h = absurd h
back line Report h = absurd h
back line Singular h = absurd h
back line NotInGroup h = absurd h

fault_of : (line : List ℕ) (r : Reason) → HasFault line r → IsFault line (error_of r)
unfolding error_of
fault_of line (Shape p) h = h
fault_of line (Zero p) h = h
fault_of line (Range p) h = h
fault_of line Determinant h = h
fault_of line Missing h = absurd h
fault_of line Report h = absurd h
fault_of line Singular h = absurd h
fault_of line NotInGroup h = absurd h

reason_unique : (line : List ℕ) (r s : Reason) → HasFault line r → HasFault line s → r ≡ s
reason_unique line r s h g = sym (back line r h) ∙ ap reason_of (fault_unique line (error_of r) (error_of s) (fault_of line r h) (fault_of line s g)) ∙ back line s g

-- lines that may follow

abbrev pub IsRight : List ℕ → LineSort → Type 0
IsRight line skipped = Unit {0}
IsRight line triplet = (g : Operation) × IsTextOf line g
IsRight line (section Subgroup) = IsSubgroupText line
IsRight line (section Basis) = (num : List (List ℤ)) × (den : ℕ) × IsBasisText line num den
IsRight line (section Origin) = (p : Vec3) × IsOriginText line p
IsRight line (section ReportWord) = ⊥

pub record FitsBehind (s : Said) (line : List ℕ) : Type 0 where
  pub sort : LineSort
  pub is_of_sort : IsOfSort line sort
  pub may_stand : MayStand s sort
  pub is_right : IsRight line sort

may_skip : (s : Said) → MayStand s skipped
may_skip (group gens) = tt
may_skip (begun gens) = tt
may_skip (based gens n P) = tt
may_skip (complete gens sub) = tt

pub adds_fits : (n : ℕ) (line : List ℕ) (s t : Said) → Adds n line s t → FitsBehind s line
adds_fits n line s t (nothing is) = record { sort = skipped; is_of_sort = is; may_stand = may_skip s; is_right = tt }
adds_fits n line s t (generator g is text) = record { sort = triplet; is_of_sort = is; may_stand = tt; is_right = (g, text) }
adds_fits n line s t (subgroup is text) = record { sort = section Subgroup; is_of_sort = is; may_stand = tt; is_right = text }
adds_fits n line s t (basis num den is text) = record { sort = section Basis; is_of_sort = is; may_stand = tt; is_right = (num, den, text) }
adds_fits n line s t (origin p is text) = record { sort = section Origin; is_of_sort = is; may_stand = tt; is_right = (p, text) }
adds_fits n line s t (sub_generator g is text) = record { sort = triplet; is_of_sort = is; may_stand = tt; is_right = (g, text) }

-- a faulty line

right_or_own : (line : List ℕ) (a : LineSort) (r : Reason) → IsRight line a → IsOwnFault line a r → ⊥
right_or_own line skipped r h f = f
right_or_own line triplet r h f = fault_none line h.0 (error_of r) h.1 (fault_of line r f)
right_or_own line (section Subgroup) r h f = f.0 h
right_or_own line (section Basis) r h f = basis_or_fault line h.0 h.1 f.0 h.2 f.1
right_or_own line (section Origin) r h f = origin_or_fault line h.0 f.0 h.1 f.1
right_or_own line (section ReportWord) r h f = h

own_unique : (line : List ℕ) (a : LineSort) (r q : Reason) → IsOwnFault line a r → IsOwnFault line a q → r ≡ q
own_unique line skipped r q h f = absurd h
own_unique line triplet r q h f = reason_unique line r q h f
own_unique line (section Subgroup) r q h f = h.3 ∙ ap Shape (place_unique IsSubgroupText line h.1 f.1 h.2 f.2) ∙ sym f.3
own_unique line (section Basis) r q h f = h.2 ∙ ap (λ e. setting_reason e) (basis_fault_unique line h.0 f.0 h.1 f.1) ∙ sym f.2
own_unique line (section Origin) r q h f = h.2 ∙ ap (λ e. setting_reason e) (origin_fault_unique line h.0 f.0 h.1 f.1) ∙ sym f.2
own_unique line (section ReportWord) r q h f = absurd h

wrong_or_fits : (s : Said) (line : List ℕ) (r : Reason) → IsWrong s line r → FitsBehind s line → ⊥
wrong_or_fits s line r (misplaced never e) f = never f.sort f.is_of_sort f.may_stand
wrong_or_fits s line r (faulty a is may own) f = right_or_own line a r (subst (IsRight line) (sort_unique line f.sort a f.is_of_sort is) f.is_right) own

pub wrong_or_adds : (n : ℕ) (s t : Said) (line : List ℕ) (r : Reason) → IsWrong s line r → Adds n line s t → ⊥
wrong_or_adds n s t line r w a = wrong_or_fits s line r w (adds_fits n line s t a)

pub wrong_unique : (s : Said) (line : List ℕ) (r q : Reason) → IsWrong s line r → IsWrong s line q → r ≡ q
wrong_unique s line r q (misplaced never e) (misplaced none f) = e ∙ sym f
wrong_unique s line r q (misplaced never e) (faulty b is may own) = absurd (never b is may)
wrong_unique s line r q (faulty a is may own) (misplaced never f) = absurd (never a is may)
wrong_unique s line r q (faulty a is may own) (faulty b are can other) =
    own_unique line a r q own (subst (λ x. IsOwnFault line x q) (sort_unique line b a are is) other)

-- nothing is added at a report, nor is a line wrong there

pub report_adds : (n : ℕ) (s t : Said) (line : List ℕ) → Begins ReportWord line → Adds n line s t → ⊥
report_adds n s t line b a =
    let f = adds_fits n line s t a in
    subst (IsRight line) (sort_unique line f.sort (section ReportWord) f.is_of_sort b) f.is_right

pub report_wrong : (s : Said) (line : List ℕ) (r : Reason) → Begins ReportWord line → MayStand s (section ReportWord) → IsWrong s line r → ⊥
report_wrong s line r b may (misplaced never e) = never (section ReportWord) b may
report_wrong s line r b may (faulty a is can own) = subst (λ x. IsOwnFault line x r) (sort_unique line a (section ReportWord) is b) own

-- what a line adds

clash : (line : List ℕ) (a b : LineSort) → IsOfSort line a → IsOfSort line b → (a ≡ b → ⊥) → ⊥
clash line a b f g other = other (sort_unique line a b f g)

pub adds_unique : {n : ℕ} {line : List ℕ} {s t u : Said} → Adds n line s t → Adds n line s u → t ≡ u
adds_unique (nothing i) (nothing j) = refl
adds_unique {line = line} (nothing i) (generator h j v) = absurd (clash line skipped triplet i j (λ e. cc))
adds_unique {line = line} (nothing i) (subgroup j v) = absurd (clash line skipped (section Subgroup) i j (λ e. cc))
adds_unique {line = line} (nothing i) (basis num den j v) = absurd (clash line skipped (section Basis) i j (λ e. cc))
adds_unique {line = line} (nothing i) (origin p j v) = absurd (clash line skipped (section Origin) i j (λ e. cc))
adds_unique {line = line} (nothing i) (sub_generator h j v) = absurd (clash line skipped triplet i j (λ e. cc))
adds_unique {line = line} (generator g i t) (nothing j) = absurd (clash line skipped triplet j i (λ e. cc))
adds_unique {n = n} {line = line} (generator {gens = gens} g i t) (generator h j v) = ap (λ (o : Operation). group (gens ++ placed_at n o ∷ [])) (operation_unique line g h t v)
adds_unique {line = line} (generator g i t) (subgroup j v) = absurd (clash line triplet (section Subgroup) i j (λ e. cc))
adds_unique {line = line} (subgroup i t) (nothing j) = absurd (clash line skipped (section Subgroup) j i (λ e. cc))
adds_unique {line = line} (subgroup i t) (generator h j v) = absurd (clash line triplet (section Subgroup) j i (λ e. cc))
adds_unique (subgroup i t) (subgroup j v) = refl
adds_unique {line = line} (basis num den i t) (nothing j) = absurd (clash line skipped (section Basis) j i (λ e. cc))
adds_unique {n = n} {line = line} (basis {gens = gens} num den i t) (basis low least j v) = ap (λ (P : Matrix rationals 3 3). based gens n P) (basis_unique line num low den least t v)
adds_unique {line = line} (origin p i t) (nothing j) = absurd (clash line skipped (section Origin) j i (λ e. cc))
adds_unique {line = line} (origin {gens = gens} {m = m} {P = P} p i t) (origin q j v) = ap (λ (x : Vector). complete gens (setting_at m P x)) (origin_unique line p q t v)
adds_unique {line = line} (sub_generator g i t) (nothing j) = absurd (clash line skipped triplet j i (λ e. cc))
adds_unique {n = n} {line = line} (sub_generator {gens = gens} {sub = sub} g i t) (sub_generator h j v) =
    ap (λ (o : Operation). complete gens (with_generator sub (placed_at n o))) (operation_unique line g h t v)

-- lines one after another

same_place : {bytes : List ℕ} {s t : Said} {n : ℕ} {rest other : List ℕ} → Reaches bytes s n rest → Reaches bytes t n other → (s ≡ t) × (rest ≡ other)
same_place start start = (refl, refl)
same_place (more {s = s} {t = t} {n = n} {rest = rest} {line = line} {behind = behind} r f a) (more {s = q} {t = u} {rest = other} {line = mine} {behind = after} p g b) =
    let both : (s ≡ q) × (rest ≡ other) = same_place r p in
    let lines : (line ≡ mine) × (behind ≡ after) = first_unique rest line behind mine after f (subst (λ x. IsFirstLine x mine after) (sym both.1) g) in
    let added : Adds (suc n) line s u = subst (λ l. Adds (suc n) l s u) (sym lines.0) (subst (λ x. Adds (suc n) mine x u) (sym both.0) b) in
    (adds_unique a added, lines.1)

-- that a line adds something at a place
record GoesOn (s : Said) (n : ℕ) (rest : List ℕ) : Type 0 where
  pub line : List ℕ
  pub behind : List ℕ
  pub then : Said
  pub is_first : IsFirstLine rest line behind
  pub adds : Adds (suc n) line s then

last_or_before : (n k : ℕ) → n < suc k → (n < k) ⊎ (n ≡ k)
last_or_before zero zero lt = inr refl
last_or_before zero (suc k) lt = inl (omega arith)
last_or_before (suc n) zero lt = absurd (omega (arith, lt))
last_or_before (suc n) (suc k) lt = elim (last_or_before n k (omega (arith, lt))) [ inl f ↦ inl (omega (arith, f)) | inr e ↦ inr (ap suc e) ]

goes_on : {bytes : List ℕ} {s t : Said} {n m : ℕ} {rest other : List ℕ} → Reaches bytes s n rest → Reaches bytes t m other → n < m → GoesOn s n rest
goes_on r start lt = absurd (omega (arith, lt))
goes_on {bytes = bytes} {s = s} {n = n} {rest = rest} r (more {s = q} {t = u} {n = k} {rest = here} {line = line} {behind = behind} p f a) lt = elim (last_or_before n k lt) [
  | inl before ↦ goes_on r p before
  | inr e ↦
      let both : (s ≡ q) × (rest ≡ here) = same_place r (subst (λ i. Reaches bytes q i here) (sym e) p) in
      record {
        line = line;
        behind = behind;
        then = u;
        is_first = subst (λ x. IsFirstLine x line behind) (sym both.1) f;
        adds = subst (λ i. Adds (suc i) line s u) (sym e) (subst (λ x. Adds (suc k) line x u) (sym both.0) a);
      }
]

pub record Halts (s : Said) (rest : List ℕ) : Type 0 where
  pub stops : (line behind : List ℕ) → IsFirstLine rest line behind → (n : ℕ) (t : Said) → ¬ (Adds n line s t)

not_before : {bytes : List ℕ} {s t : Said} {n m : ℕ} {rest other : List ℕ} → Reaches bytes s n rest → Halts s rest → Reaches bytes t m other → n < m → ⊥
not_before {n = n} r h p lt = let g = goes_on r p lt in h.stops g.line g.behind g.is_first (suc n) g.then g.adds

compare : (n m : ℕ) → (n < m) ⊎ ((n ≡ m) ⊎ (m < n))
compare zero zero = inr (inl refl)
compare zero (suc m) = inl (omega arith)
compare (suc n) zero = inr (inr (omega arith))
compare (suc n) (suc m) = elim (compare n m) [
  | inl lt ↦ inl (omega (arith, lt))
  | inr h ↦ elim h [ inl e ↦ inr (inl (ap suc e)) | inr lt ↦ inr (inr (omega (arith, lt))) ]
]

pub halts_once : {bytes : List ℕ} {s t : Said} {n m : ℕ} {rest other : List ℕ} → Reaches bytes s n rest → Halts s rest → Reaches bytes t m other → Halts t other
    → (n ≡ m) × (s ≡ t) × (rest ≡ other)
halts_once {bytes = bytes} {s = s} {t = t} {n = n} {m = m} {rest = rest} {other = other} r h p g = elim (compare n m) [
  | inl lt ↦ absurd (not_before r h p lt)
  | inr c ↦ elim c [
    | inl e ↦
        let both : (s ≡ t) × (rest ≡ other) = same_place r (subst (λ i. Reaches bytes t i other) (sym e) p) in
        (e, both.0, both.1)
    | inr lt ↦ absurd (not_before p g r lt)
  ]
]
