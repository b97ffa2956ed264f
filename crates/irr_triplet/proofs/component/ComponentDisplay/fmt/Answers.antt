-- The text of a component.
use Rattle.std.proofs.Common.{ℕ, List, subst, w16, to_z, of_z, rules}
use mir.Val.{SFits}
use Rattle.std.specs.Fmt.{HasWritten}
use Rattle.std.proofs.lemmas.Int.{to_z-of_z}
use Rattle.irr_triplet.proofs.TermTexts.{kept-x, kept-y, kept-z, kept-none}
use Rattle.irr_triplet.proofs.component.ComponentDisplay.fmt.Goals as goal

pub returns-then-x-ne0-clause-writes : goal.returns-then-x-ne0-clause-writes
returns-then-x-ne0-clause-writes g c = λ p o.
    let s = c.args.self.now in
    let fx : SFits w16 s.x = search rules in
    let fy : SFits w16 s.y = search rules in
    let fz : SFits w16 s.z = search rules in
    let P : List ℕ → Type 0 = λ text. HasWritten {W = g.row.W.Denot} g.W.Write.write_str_gives c.args.f.now text c.write.new.self in
    subst P (kept-x s.x s.y s.z (to_z w16 (of_z w16 s.x)) (to_z w16 (of_z w16 s.y)) (to_z w16 (of_z w16 s.z)) s.shift.num s.shift.den (to_z-of_z w16 s.x fx) (to_z-of_z w16 s.y fy) (to_z-of_z w16 s.z fz)
    c.if-x-ne0.true) (c.write.ensures.writes p o)

pub returns-then-y-ne0-clause-writes : goal.returns-then-y-ne0-clause-writes
returns-then-y-ne0-clause-writes g c = λ p o.
    let s = c.args.self.now in
    let fx : SFits w16 s.x = search rules in
    let fy : SFits w16 s.y = search rules in
    let fz : SFits w16 s.z = search rules in
    let P : List ℕ → Type 0 = λ text. HasWritten {W = g.row.W.Denot} g.W.Write.write_str_gives c.args.f.now text c.write-then-y-ne0.new.self in
    subst P (kept-y s.x s.y s.z (to_z w16 (of_z w16 s.x)) (to_z w16 (of_z w16 s.y)) (to_z w16 (of_z w16 s.z)) s.shift.num s.shift.den (to_z-of_z w16 s.x fx) (to_z-of_z w16 s.y fy) (to_z-of_z w16 s.z fz)
    fx c.if-x-ne0.false c.if-y-ne0.true) (c.write-then-y-ne0.ensures.writes p o)

pub returns-then-z-ne0-clause-writes : goal.returns-then-z-ne0-clause-writes
returns-then-z-ne0-clause-writes g c = λ p o.
    let s = c.args.self.now in
    let fx : SFits w16 s.x = search rules in
    let fy : SFits w16 s.y = search rules in
    let fz : SFits w16 s.z = search rules in
    let P : List ℕ → Type 0 = λ text. HasWritten {W = g.row.W.Denot} g.W.Write.write_str_gives c.args.f.now text c.write-then-z-ne0.new.self in
    subst P (kept-z s.x s.y s.z (to_z w16 (of_z w16 s.x)) (to_z w16 (of_z w16 s.y)) (to_z w16 (of_z w16 s.z)) s.shift.num s.shift.den (to_z-of_z w16 s.x fx) (to_z-of_z w16 s.y fy) (to_z-of_z w16 s.z fz)
    fx fy c.if-x-ne0.false c.if-y-ne0.false c.if-z-ne0.true) (c.write-then-z-ne0.ensures.writes p o)

pub returns-else-z-ne0-clause-writes : goal.returns-else-z-ne0-clause-writes
returns-else-z-ne0-clause-writes g c = λ p o.
    let s = c.args.self.now in
    let fx : SFits w16 s.x = search rules in
    let fy : SFits w16 s.y = search rules in
    let fz : SFits w16 s.z = search rules in
    let P : List ℕ → Type 0 = λ text. HasWritten {W = g.row.W.Denot} g.W.Write.write_str_gives c.args.f.now text c.write-else-z-ne0.new.self in
    subst P (kept-none s.x s.y s.z (to_z w16 (of_z w16 s.x)) (to_z w16 (of_z w16 s.y)) (to_z w16 (of_z w16 s.z)) s.shift.num s.shift.den (to_z-of_z w16 s.x fx) (to_z-of_z w16 s.y fy) (to_z-of_z w16 s.z fz)
    fx fy fz s.lowest c.if-x-ne0.false c.if-y-ne0.false c.if-z-ne0.false) (c.write-else-z-ne0.ensures.writes p o)
