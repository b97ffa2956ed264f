-- A term behind others.
use Rattle.std.proofs.Common.{◌≡◌, ℕ, List, subst, w16, pos, rules, true, false}
use mir.Val.{SFits}
use lib.Signed.{lt_z}
use Rattle.std.specs.Fmt.{HasWritten}
use Rattle.std.proofs.lemmas.Int.{to_z-of_z}
use Rattle.irr_triplet.specs.Letters.{letter_byte}
use Rattle.irr_triplet.proofs.TermTexts.{signed_term-above, signed_term-below, signed_term-neither}
use Rattle.irr_triplet.proofs.term.SignedTermDisplay.fmt.Goals as goal

pub returns-then-term-gt0-clause-writes : goal.returns-then-term-gt0-clause-writes
returns-then-term-gt0-clause-writes g c = λ p o.
    let fits : SFits w16 c.args.self.now.0.coefficient = search rules in
    let P : List ℕ → Type 0 = λ text. HasWritten {W = g.row.W.Denot} g.W.Write.write_str_gives c.args.f.now text c.write.new.self in
    subst P (signed_term-above c.args.self.now.0.coefficient (letter_byte c.args.self.now.0.letter)
    (subst (λ z. lt_z (pos 0) z ≡ true) (to_z-of_z w16 c.args.self.now.0.coefficient fits) c.if-term-gt0.true)) (c.write.ensures.writes p o)

pub returns-then-term-lt0-clause-writes : goal.returns-then-term-lt0-clause-writes
returns-then-term-lt0-clause-writes g c = λ p o.
    let fits : SFits w16 c.args.self.now.0.coefficient = search rules in
    let P : List ℕ → Type 0 = λ text. HasWritten {W = g.row.W.Denot} g.W.Write.write_str_gives c.args.f.now text c.write-then-term-lt0.new.self in
    subst P (signed_term-below c.args.self.now.0.coefficient (letter_byte c.args.self.now.0.letter)
    (subst (λ z. lt_z z (pos 0) ≡ true) (to_z-of_z w16 c.args.self.now.0.coefficient fits) c.if-term-lt0.true)) (c.write-then-term-lt0.ensures.writes p o)

pub returns-else-term-lt0-clause-writes : goal.returns-else-term-lt0-clause-writes
returns-else-term-lt0-clause-writes g c = λ p o.
    let fits : SFits w16 c.args.self.now.0.coefficient = search rules in
    let P : List ℕ → Type 0 = λ text. HasWritten {W = g.row.W.Denot} g.W.Write.write_str_gives c.args.f.now text c.args.f.now in
    subst P (signed_term-neither c.args.self.now.0.coefficient (letter_byte c.args.self.now.0.letter)
    (subst (λ z. lt_z (pos 0) z ≡ false) (to_z-of_z w16 c.args.self.now.0.coefficient fits) c.if-term-gt0.false)
    (subst (λ z. lt_z z (pos 0) ≡ false) (to_z-of_z w16 c.args.self.now.0.coefficient fits) c.if-term-lt0.false)) (search rules)
