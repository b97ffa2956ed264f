-- A term by itself.
use Rattle.std.proofs.Common.{◌∙◌, ap, ℕ, List, [], ◌∷◌, ◌++◌, subst, w16, pos, negsuc, rules, refl}
use mir.Val.{SFits}
use Rattle.std.specs.Fmt.{HasWritten, signed_decimal}
use Rattle.std.proofs.lemmas.Int.{to_z-of_z}
use Rattle.irr_triplet.specs.Letters.{letter_byte}
use Rattle.irr_triplet.proofs.TermTexts.{term-zero, term-one, term-minus, term-other, is_tested, not_tested}
use Rattle.irr_triplet.proofs.term.TermDisplay.fmt.Goals as goal

pub returns-then-coefficient-eq0-clause-writes : goal.returns-then-coefficient-eq0-clause-writes
returns-then-coefficient-eq0-clause-writes g c = λ p o.
    let fits : SFits w16 c.args.self.now.coefficient = search rules in
    let P : List ℕ → Type 0 = λ text. HasWritten {W = g.row.W.Denot} g.W.Write.write_str_gives c.args.f.now text c.write.new.self in
    subst P (term-zero c.args.self.now.coefficient (letter_byte c.args.self.now.letter) (is_tested c.args.self.now.coefficient (pos 0) 0 fits refl c.if-coefficient-eq0.true)) (c.write.ensures.writes p o)

pub returns-then-coefficient-eq1-clause-writes : goal.returns-then-coefficient-eq1-clause-writes
returns-then-coefficient-eq1-clause-writes g c = λ p o.
    let fits : SFits w16 c.args.self.now.coefficient = search rules in
    let P : List ℕ → Type 0 = λ text. HasWritten {W = g.row.W.Denot} g.W.Write.write_str_gives c.args.f.now text c.write-then-coefficient-eq1.new.self in
    subst P (term-one c.args.self.now.coefficient (letter_byte c.args.self.now.letter) (is_tested c.args.self.now.coefficient (pos 1) 1 fits refl c.if-coefficient-eq1.true)) (c.write-then-coefficient-eq1.ensures.writes p o)

pub returns-then-coefficient-clause-writes : goal.returns-then-coefficient-clause-writes
returns-then-coefficient-clause-writes g c = λ p o.
    let fits : SFits w16 c.args.self.now.coefficient = search rules in
    let P : List ℕ → Type 0 = λ text. HasWritten {W = g.row.W.Denot} g.W.Write.write_str_gives c.args.f.now text c.write-then-coefficient.new.self in
    subst P (term-minus c.args.self.now.coefficient (letter_byte c.args.self.now.letter) (is_tested c.args.self.now.coefficient (negsuc 0) 65535 fits refl c.if-coefficient.true)) (c.write-then-coefficient.ensures.writes p o)

pub returns-else-coefficient-clause-writes : goal.returns-else-coefficient-clause-writes
returns-else-coefficient-clause-writes g c = λ p o.
    let fits : SFits w16 c.args.self.now.coefficient = search rules in
    let P : List ℕ → Type 0 = λ text. HasWritten {W = g.row.W.Denot} g.W.Write.write_str_gives c.args.f.now text c.write-else-coefficient.new.self in
    subst P (ap (λ z. signed_decimal z ++ letter_byte c.args.self.now.letter ∷ []) (to_z-of_z w16 c.args.self.now.coefficient fits)
    ∙ term-other c.args.self.now.coefficient (letter_byte c.args.self.now.letter) (not_tested c.args.self.now.coefficient (pos 0) 0 refl c.if-coefficient-eq0.false)
    (not_tested c.args.self.now.coefficient (pos 1) 1 refl c.if-coefficient-eq1.false) (not_tested c.args.self.now.coefficient (negsuc 0) 65535 refl c.if-coefficient.false)) (c.write-else-coefficient.ensures.writes p o)
