-- Member by member.
use Rattle.std.proofs.Common.{rules, refl, ◌≡◌, sym, ◌∙◌, ap, subst, ◌+◌, ◌<◌, ◌∷◌, [], length, length-append, arith}
use Rattle.irr_algebra.specs.Fin.{to_nat}
use Rattle.irr_algebra.proofs.Indices.{to_nat-lt}
use Rattle.irr_mult.proofs.StarFacts.{IsCharacterAt, asked_family, family_at, pushed}
use Rattle.irr_site.proofs.characters.small_characters.Goals as goal

pub loop-family-init : goal.loop-family-init
loop-family-init g c = (ap length c.new-characters.ensures.items, λ h T v L read j e l. absurd (omega (arith, l)))

pub small_character-requires : goal.small_character-requires
small_character-requires g c =
    let r = c.requires in
    let a = asked_family r.1 r.2 c.args.families.now r.3 c.loop-family.family-index c.loop-family-test.true
    c.family-item.result c.family-item.is in
    (r.0, r.1, r.2, a.0, a.1, a.2, a.3, a.4)

pub loop-family-preserved : goal.loop-family-preserved
loop-family-preserved g c =
    let k = c.loop-family.family-index in (
      ap length c.in_ok-push.ensures.items ∙ length-append c.loop-family.characters.items
          (c.in_ok-character.character ∷ [])
          ∙ ap (λ n. n + 1) c.loop-family.invariant.0,
      λ h T v L read. pushed (IsCharacterAt g.S.Scalar.order_of g.S.Scalar.value T T.order v L)
          c.loop-family.characters.items
          c.push.new.self.items c.in_ok-character.character k c.loop-family.invariant.0 c.in_ok-push.ensures.items
          (c.loop-family.invariant.1 h T v L read)
          (λ m e. c.in_ok-character.ensures h T v (L.size m) (L.member m)
          (family_at T L c.args.families.now read k c.family-item.result c.family-item.is m e)),
    )

pub returns-clause-count : goal.returns-clause-count
returns-clause-count g c = (let done : c.loop-family.family-index ≡ length c.args.families.now = search rules in
    c.loop-family.invariant.0 ∙ done)

pub returns-clause-characters : goal.returns-clause-characters
returns-clause-characters g c h T v L read m e =
    let done : c.loop-family.family-index ≡ length c.args.families.now = search rules in
    c.loop-family.invariant.1 h T v L read (to_nat m) e (subst (λ n. to_nat m < n) (sym (done ∙ read.count))
    (to_nat-lt m)) m refl
