-- One after another.
use Rattle.std.proofs.Common.{◌≡◌, refl, sym, ◌∙◌, ap, ℕ, List, [], ◌∷◌, ◌++◌, append-nil, append_assoc, length, map, Vec, Global, arith}
use Rattle.std.proofs.lemmas.List.{map-append}
use Rattle.irr_mult.specs.declared.star.SmallCharacter.{SmallCharacter}
use Rattle.irr_compat.proofs.relations.parted.Goals as goal

none_left : {A : Type 0} (xs : List A) (n : ℕ) → n ≡ length xs → n ≡ 0 → xs ≡ []
none_left [] n e z = refl
none_left (x ∷ xs) n e z = absurd (omega (arith, e, z))

moved : {A B : Type 0} (f : A → B) (made after : List B) (x : A) (rest next all : List A) → after ≡ made ++ f x ∷ [] → rest ≡ x ∷ next
    → made ++ map f rest ≡ map f all → after ++ map f next ≡ map f all
moved f made after x rest next all e r inv = ap (λ ys. ys ++ map f next) e ∙ append_assoc made (f x ∷ []) (map f next) ∙ ap (λ ys. made ++ map f ys) (sym r) ∙ inv

all_moved : {A B : Type 0} (f : A → B) (made : List B) (rest all : List A) → rest ≡ [] → made ++ map f rest ≡ map f all → made ≡ map f all
all_moved f made rest all e inv = sym (append-nil made) ∙ ap (λ ys. made ++ map f ys) (sym e) ∙ inv

pub loop-member-init : goal.loop-member-init
loop-member-init g c =
    let gives = c.into_iter-member-iterator.ensures.into_iter_gives.0 in
    let rest = c.into_iter-member-iterator.result.rest.items in (
      ap (λ (ds : List ℕ). ds ++ map (λ (x : SmallCharacter g.row.S.Denot). x.dim) rest) c.new-dims.ensures.items ∙ ap (map (λ (x : SmallCharacter g.row.S.Denot). x.dim)) gives,
      ap (λ (rs : List (Vec g.row.S.Denot Global)). map (λ (v : Vec g.row.S.Denot Global). v.items) rs ++ map (λ (x : SmallCharacter g.row.S.Denot). x.row.items) rest)
          c.new-chars.ensures.items ∙ ap (map (λ (x : SmallCharacter g.row.S.Denot). x.row.items)) gives,
    )

pub loop-member-preserved : goal.loop-member-preserved
loop-member-preserved g c = (
  moved (λ (x : SmallCharacter g.row.S.Denot). x.dim) c.loop-member.dims.items c.push.new.self.items c.in-Some.member c.loop-member.member-iterator.rest.items
      c.next.new.self.rest.items c.args.members.items c.in_ok-push.ensures.items c.in-Some.ensures.steps.0 c.loop-member.invariant.0,
  moved (λ (x : SmallCharacter g.row.S.Denot). x.row.items) (map (λ (v : Vec g.row.S.Denot Global). v.items) c.loop-member.chars.items)
      (map (λ (v : Vec g.row.S.Denot Global). v.items) c.push-in-loop-member.new.self.items) c.in-Some.member c.loop-member.member-iterator.rest.items
      c.next.new.self.rest.items c.args.members.items
      (ap (map (λ (v : Vec g.row.S.Denot Global). v.items)) c.in_ok-push-2.ensures.items
      ∙ map-append (λ (v : Vec g.row.S.Denot Global). v.items) c.loop-member.chars.items (c.in-Some.member.row ∷ []))
      c.in-Some.ensures.steps.0 c.loop-member.invariant.1,
)

pub returns : goal.returns
returns g c =
    let rest = c.loop-member.member-iterator.rest in
    let none = none_left rest.items rest.len rest.ok.0 c.in-None.ensures.steps.0 in (
      all_moved (λ (x : SmallCharacter g.row.S.Denot). x.dim) c.loop-member.dims.items rest.items c.args.members.items none c.loop-member.invariant.0,
      all_moved (λ (x : SmallCharacter g.row.S.Denot). x.row.items) (map (λ (v : Vec g.row.S.Denot Global). v.items) c.loop-member.chars.items) rest.items c.args.members.items none
          c.loop-member.invariant.1,
    )
