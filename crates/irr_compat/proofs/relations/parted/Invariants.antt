-- The sizes and the characters so far.
use Rattle.std.proofs.Common.{◌≡◌, ◌++◌, map, Vec, Global}
use Rattle.irr_mult.specs.declared.star.SmallCharacter.{SmallCharacter}
use Rattle.irr_compat.proofs.relations.parted.Given as goal

abbrev pub invariant-loop-member : goal.invariant-loop-member
invariant-loop-member g l = (l.dims.items ++ map (λ (x : SmallCharacter g.row.S.Denot). x.dim) l.member-iterator.rest.items ≡ map (λ (x : SmallCharacter g.row.S.Denot). x.dim) l.fn.members.items)
    × (map (λ (v : Vec g.row.S.Denot Global). v.items) l.chars.items ++ map (λ (x : SmallCharacter g.row.S.Denot). x.row.items) l.member-iterator.rest.items
    ≡ map (λ (x : SmallCharacter g.row.S.Denot). x.row.items) l.fn.members.items)
