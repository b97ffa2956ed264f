-- A constant behind others.
use Rattle.std.proofs.Common.{◌≡◌, ℕ, List, subst, pos, rules, true, false}
use Rattle.std.specs.Int.{w128}
use mir.Val.{SFits}
use lib.Signed.{lt_z}
use Rattle.std.specs.Fmt.{HasWritten}
use Rattle.std.proofs.lemmas.Int.{to_z-of_z}
use Rattle.irr_triplet.proofs.TermTexts.{signed_fraction-above, signed_fraction-below, signed_fraction-neither}
use Rattle.irr_triplet.proofs.term.SignedFractionDisplay.fmt.Goals as goal

pub returns-then-fraction-gt0-clause-writes : goal.returns-then-fraction-gt0-clause-writes
returns-then-fraction-gt0-clause-writes g c = λ p o.
    let fits : SFits w128 c.args.self.now.0.num = search rules in
    let P : List ℕ → Type 0 = λ text. HasWritten {W = g.row.W.Denot} g.W.Write.write_str_gives c.args.f.now text c.write.new.self in
    subst P (signed_fraction-above c.args.self.now.0.num c.args.self.now.0.den
    (subst (λ z. lt_z (pos 0) z ≡ true) (to_z-of_z w128 c.args.self.now.0.num fits) c.if-fraction-gt0.true)) (c.write.ensures.writes p o)

pub returns-then-fraction-lt0-clause-writes : goal.returns-then-fraction-lt0-clause-writes
returns-then-fraction-lt0-clause-writes g c = λ p o.
    let fits : SFits w128 c.args.self.now.0.num = search rules in
    let P : List ℕ → Type 0 = λ text. HasWritten {W = g.row.W.Denot} g.W.Write.write_str_gives c.args.f.now text c.write-then-fraction-lt0.new.self in
    subst P (signed_fraction-below c.args.self.now.0.num c.args.self.now.0.den
    (subst (λ z. lt_z z (pos 0) ≡ true) (to_z-of_z w128 c.args.self.now.0.num fits) c.if-fraction-lt0.true)) (c.write-then-fraction-lt0.ensures.writes p o)

pub returns-else-fraction-lt0-clause-writes : goal.returns-else-fraction-lt0-clause-writes
returns-else-fraction-lt0-clause-writes g c = λ p o.
    let fits : SFits w128 c.args.self.now.0.num = search rules in
    let P : List ℕ → Type 0 = λ text. HasWritten {W = g.row.W.Denot} g.W.Write.write_str_gives c.args.f.now text c.args.f.now in
    subst P (signed_fraction-neither c.args.self.now.0.num c.args.self.now.0.den
    (subst (λ z. lt_z (pos 0) z ≡ false) (to_z-of_z w128 c.args.self.now.0.num fits) c.if-fraction-gt0.false)
    (subst (λ z. lt_z z (pos 0) ≡ false) (to_z-of_z w128 c.args.self.now.0.num fits) c.if-fraction-lt0.false)) (search rules)
