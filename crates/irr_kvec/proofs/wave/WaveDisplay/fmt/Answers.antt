-- The text of a wave vector.
use Rattle.std.proofs.Common.{◌≡◌, ◌∙◌, ap, subst, ℕ, ℤ, pos, List, get_or, rules, w64, to_z, of_z}
use Rattle.std.specs.Fmt.{HasWritten}
use mir.Val.{SFits}
use Rattle.std.proofs.lemmas.Int.{to_z-of_z}
use Rattle.irr_rational.specs.Rational.{ratio}
use Rattle.irr_kvec.proofs.WaveText.{wave_text-fractions}
use Rattle.irr_kvec.proofs.wave.WaveDisplay.fmt.Goals as goal

-- a number of 64 bits is kept
kept : (x : ℤ) (d : ℕ) → SFits w64 x → ratio (to_z w64 (of_z w64 x)) d ≡ ratio x d
kept x d h = ap (λ z. ratio z d) (to_z-of_z w64 x h)

pub returns-clause-writes : goal.returns-clause-writes
returns-clause-writes g c = λ p o.
    let x : SFits w64 (get_or c.args.self.now.num 0 (pos 0)) = search rules in
    let y : SFits w64 (get_or c.args.self.now.num 1 (pos 0)) = search rules in
    let z : SFits w64 (get_or c.args.self.now.num 2 (pos 0)) = search rules in
    let P : List ℕ → Type 0 = λ text. HasWritten {W = g.row.W.Denot} g.W.Write.write_str_gives c.args.f.now text c.write.new.self in
    subst P (wave_text-fractions c.args.self.now.num c.args.self.now.den c.new-x.result.num c.new-y.result.num c.new-z.result.num c.new-x.result.den c.new-y.result.den c.new-z.result.den
    c.new-x.ensures.lowest c.new-y.ensures.lowest c.new-z.ensures.lowest
    (c.new-x.ensures.same ∙ kept (get_or c.args.self.now.num 0 (pos 0)) c.args.self.now.den x) (c.new-y.ensures.same ∙ kept (get_or c.args.self.now.num 1 (pos 0)) c.args.self.now.den y) (c.new-z.ensures.same ∙ kept (get_or c.args.self.now.num 2 (pos 0)) c.args.self.now.den z))
    (c.write.ensures.writes p o)
