-- The number there is the entry.
use Rattle.std.proofs.Common.{◌≡◌, sym, ◌∙◌, ap₂, subst, ℕ, ◌≤◌, ℤ, pos, List, [], get_or, unsigned_abs, w64}
use Rattle.std.proofs.lemmas.Int.{to_z-of_z}
use Rattle.irr_algebra.specs.Fin.{Fin, to_nat}
use Rattle.irr_algebra.proofs.Indices.{from_nat, to_nat-from_nat}
use Rattle.irr_seitz.specs.Rotation.{rotation_of}
use Rattle.irr_power.proofs.forms.entry.Goals as goal

at : (rot : List (List ℤ)) (i j : ℕ) (a b : Fin 3) → to_nat a ≡ i → to_nat b ≡ j → get_or (get_or rot i []) j (pos 0) ≡ (rotation_of rot).at a b
unfolding rotation_of
at rot i j a b e f = ap₂ (λ x y. get_or (get_or rot x []) y (pos 0)) (sym e) (sym f)

pub returns-clause-value : goal.returns-clause-value
returns-clause-value c a b e f = to_z-of_z w64 c.number_at.result (record { sfits = c.number_at.type_inv })
    ∙ c.number_at.ensures ∙ at c.args.op.now.rot c.args.i c.args.j a b e f

pub returns-clause-small : goal.returns-clause-small
returns-clause-small c =
    let a = from_nat 3 c.args.i c.requires.row in
    let b = from_nat 3 c.args.j c.requires.column in
    subst (λ z. unsigned_abs z ≤ 9) (sym (to_z-of_z w64 c.number_at.result (record { sfits = c.number_at.type_inv })
    ∙ c.number_at.ensures ∙ at c.args.op.now.rot c.args.i c.args.j a b
    (to_nat-from_nat 3 c.args.i c.requires.row) (to_nat-from_nat 3 c.args.j c.requires.column))) (c.requires.within a b)
