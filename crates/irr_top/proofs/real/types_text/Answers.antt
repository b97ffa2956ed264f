-- The types of the members of the list.
use Rattle.std.proofs.Common.{◌∙◌, ap₂, sym, subst, ℕ, List}
use Rattle.std.specs.List.{All}
use Rattle.irr_kvec.specs.WaveMeaning.{wave_vector}
use Rattle.irr_rep.specs.declared.family.Family.{Family}
use Rattle.irr_top.specs.RealFamilies.{AreTyped, IsTypeable, rows_text}
use Rattle.irr_top.specs.declared.real.TypedRep.{TypedRep}
use Rattle.irr_top.proofs.RealTexts.{few_arms, real_text_at, typeable}
use Rattle.irr_top.proofs.real.types_text.Goals as goal

pub arm_count-count-requires : goal.arm_count-count-requires
arm_count-count-requires c = few_arms c.args.group.now (wave_vector c.args.wave.now) c.in_ok-arms.arms.arms.items
    c.args.t.now
    c.in_ok-arms.ensures c.requires.table c.requires.reduced

pub typed-requires-clause-families : goal.typed-requires-clause-families
typed-requires-clause-families c = subst (λ (fs : List (Family _ _)). All (IsTypeable c.args.t.now) fs)
    (sym c.deref.ensures.value)
    (typeable c.args.group.now (wave_vector c.args.wave.now) c.in_ok-arms.arms.arms.items c.args.t.now
    c.in_ok-arms.ensures c.requires.table
    c.requires.within c.in_ok-families.families.items c.in_ok-families.ensures.list c.in_ok-families.ensures.sizes)

pub returns : goal.returns
returns c =
    let group = c.args.group.now in
    let w = wave_vector c.args.wave.now in
    let arms = c.in_ok-arms.arms.arms.items in
    let t = c.args.t.now in
    let fs = c.in_ok-families.families.items in
    let rows = c.in_ok-rows.rows.items in
    let made = subst (λ (n : ℕ). AreTyped group w n fs rows) c.arm_count-count.ensures.count
    (subst (λ (xs : List (Family _ _)). AreTyped group w c.arm_count-count.result xs rows) c.deref.ensures.value
    c.in_ok-rows.ensures) in
    real_text_at group w arms t c.in_ok-arms.ensures c.requires.table c.requires.within fs
    c.in_ok-families.ensures.list
    c.in_ok-families.ensures.sizes rows made c.requires.reduced c.in_ok-text.text.items
    (c.in_ok-text.ensures ∙ ap₂ (λ (n : ℕ) (xs : List TypedRep). rows_text w n xs) c.order.ensures.order
    c.deref-2.ensures.value)
