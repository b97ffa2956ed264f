-- A report has one verdict.
use Rattle.std.proofs.Common.{◌≡◌, ap, refl, inl, inr, ℕ, ◌<◌, ◌+◌, arith}
use Rattle.std.proofs.lemmas.Bool.{cases_lt}
use Rattle.irr_algebra.specs.Fin.{Fin}
use Rattle.irr_space.specs.Operation.{Operation}
use Rattle.irr_space.specs.Reciprocal.{IsOrder, Sign}
use Rattle.irr_space.specs.CanonicalOperation.{IsNumbering}
use Rattle.irr_space.specs.Star.{IsInLittleGroup}
use Rattle.irr_text.specs.ReportText.{ReportContent}
use Rattle.irr_check.specs.declared.verdict.Verdict.{Verdict}
use Rattle.irr_check.specs.declared.verdict.Verdict.TheVariants.{No}
use Rattle.irr_check.specs.declared.verdict.Clause.TheVariants.{Order, Ops}
use Rattle.irr_check.specs.Trials.{IsFirstFailed, Reading}
use Rattle.irr_check.specs.Verdict.{IsSameAt, IsVerdict}
use Rattle.irr_check.specs.Verdict.IsVerdict.{of_families, other_operations, other_order}
use Rattle.irr_check.proofs.OneTable.{along_numbering, order_unique}
use Rattle.irr_check.proofs.OnReports.{IsJudged, judged, judged_unique}

-- the first number that fails
first_number : (P : ℕ → Type 0) (i j : ℕ) → IsFirstFailed (λ k l. k < l) P i → IsFirstFailed (λ k l. k < l) P j → i ≡ j
first_number P i j p q = elim (cases_lt i j) [
  | inl l ↦ absurd (p.fails (q.earlier i l))
  | inr past ↦ elim (cases_lt j i) [
    | inl l ↦ absurd (q.fails (p.earlier j l))
    | inr here ↦ omega (arith, past, here)
  ]
]

module _ (w : Reading) (s : Sign) (G : Operation → Type 0) (r : ReportContent) where
  -- operations of the report differ first at i from a list
  abbrev Differ : ℕ → (n : ℕ) → (Fin n → Operation) → Type 0
  Differ i n ops = IsFirstFailed (λ k l. k < l) (IsSameAt ops r.operation) i

  abbrev IsNumbered : {n : ℕ} → (Fin n → Operation) → Type 0
  IsNumbered ops = IsNumbering G (IsInLittleGroup G r.wave) ops

  one_number : {m n : ℕ} (ops : Fin m → Operation) (others : Fin n → Operation) (i j : ℕ) → IsNumbered ops → IsNumbered others
      → Differ i m ops → Differ j n others → i ≡ j
  one_number ops others i j a b p q = first_number (IsSameAt others r.operation) i j
      (along_numbering G (IsInLittleGroup G r.wave) ops others a b (Differ i) p) q

  no_number : {m : ℕ} (ops : Fin m → Operation) (i : ℕ) → IsNumbered ops → IsNumbered r.operation → Differ i m ops → ⊥
  no_number ops i a b p =
      let q = along_numbering G (IsInLittleGroup G r.wave) ops r.operation a b (Differ i) p in
      q.fails (record { forward = λ j e. (j, e, refl); backward = λ j e. (j, e, refl) })

  -- a verdict from which the families are left out
  data IsKnown : Verdict → Type 0 where
    order_known : {n : ℕ} → IsOrder G r.wave n → ¬ (r.order ≡ n) → IsKnown (No Order 0 n 0)
    operations_known : {h i : ℕ} (ops : Fin h → Operation) → IsOrder G r.wave r.order → IsNumbered ops → Differ i h ops → IsKnown (No Ops 0 (i + 1) 0)
    families_known : {v : Verdict} → IsJudged w s G r.wave r v → IsKnown v

  known : {v : Verdict} → IsVerdict w s G r v → IsKnown v
  known (other_order order other) = order_known order other
  known (other_operations ops order numbering first) = operations_known ops order numbering first
  known (of_families {v = v} ops T F numbering table is verdict) = families_known (judged w s G r.wave r ops T F v numbering table is verdict)

  right_order : {n : ℕ} → IsOrder G r.wave n → ¬ (r.order ≡ n) → IsOrder G r.wave r.order → ⊥
  right_order {n} order other own = other (order_unique G r.wave r.order n own order)

  known_unique : {v u : Verdict} → IsKnown v → IsKnown u → v ≡ u
  known_unique (order_known {n = m} p a) (order_known {n = n} q b) = ap (λ x. No Order 0 x 0) (order_unique G r.wave m n p q)
  known_unique (order_known p a) (operations_known ops q b first) = absurd (right_order p a q)
  known_unique (order_known p a) (families_known j) = absurd (right_order p a j.is_order)
  known_unique (operations_known ops q b first) (order_known p a) = absurd (right_order p a q)
  known_unique (operations_known {i = i} ops p a first) (operations_known {i = j} others q b second) =
      ap (λ x. No Ops 0 (x + 1) 0) (one_number ops others i j a b first second)
  known_unique (operations_known {i = i} ops p a first) (families_known j) = absurd (no_number ops i a j.numbering first)
  known_unique (families_known j) (order_known p a) = absurd (right_order p a j.is_order)
  known_unique (families_known j) (operations_known {i = i} ops p a first) = absurd (no_number ops i a j.numbering first)
  known_unique (families_known {v = v} a) (families_known {v = u} b) = judged_unique w s G r.wave r v u a b

  pub one_verdict : {v u : Verdict} → IsVerdict w s G r v → IsVerdict w s G r u → v ≡ u
  one_verdict p q = known_unique (known p) (known q)
