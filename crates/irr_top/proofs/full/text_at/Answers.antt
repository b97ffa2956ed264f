-- The families of the list are induced on the star of its table.
use Rattle.std.proofs.Common.{sym, subst, List}
use Rattle.std.specs.List.{All}
use Rattle.irr_kvec.specs.WaveMeaning.{wave_vector}
use Rattle.irr_rep.specs.declared.family.Family.{Family}
use Rattle.irr_star.specs.declared.full.Full.{Full}
use Rattle.irr_star.proofs.WaveLimits.{arms_limited}
use Rattle.irr_full_text.specs.Printed.{AreFullsOf}
use Rattle.irr_top.specs.FullFamilies.{AreInducedFrom, IsInducible}
use Rattle.irr_top.proofs.FullTexts.{fulls_of, full_text_at, inducible, itself, matrices, printed, star}
use Rattle.irr_top.proofs.full.text_at.Goals as goal

pub induced-requires-clause-families : goal.induced-requires-clause-families
induced-requires-clause-families c = subst (λ (fs : List (Family _ _)). All (IsInducible c.args.group.now c.in_ok-arms.arms.arms.items c.args.t.now) fs)
    (sym c.deref.ensures.value)
    (inducible c.args.group.now (wave_vector c.args.wave.now) c.in_ok-arms.arms.arms.items c.args.t.now c.in_ok-arms.ensures c.requires.table
    c.in_ok-families.families.items c.in_ok-families.ensures.list c.in_ok-families.ensures.sizes)

pub induced-requires-clause-limits : goal.induced-requires-clause-limits
induced-requires-clause-limits c = arms_limited c.args.group.now c.args.wave.now c.in_ok-arms.arms.arms.items c.requires.limits c.in_ok-arms.ensures

pub text_full-requires : goal.text_full-requires
text_full-requires c =
    let group = c.args.group.now in
    let w = wave_vector c.args.wave.now in
    let arms = c.in_ok-arms.arms.arms.items in
    let t = c.args.t.now in
    let are = c.in_ok-arms.ensures in
    let table = c.requires.table in
    let fs = c.in_ok-families.families.items in
    let s = c.in_ok-families.ensures.list in
    let sizes = c.in_ok-families.ensures.sizes in
    let made = subst (λ (xs : List (Family _ _)). AreInducedFrom group arms t xs c.in_ok-fulls.fulls.items) c.deref.ensures.value c.in_ok-fulls.ensures in (
      w,
      star group w arms t are table,
      itself group w arms t are table fs s sizes,
      s.list,
      matrices group w arms t are table fs s sizes,
      printed group w arms t are table c.requires.reduced,
      subst (λ (xs : List (Full _ _)). AreFullsOf group (star group w arms t are table) (itself group w arms t are table fs s sizes) s.list
          (matrices group w arms t are table fs s sizes) xs) (sym c.deref-2.ensures.value)
          (fulls_of group w arms t are table fs s sizes c.in_ok-fulls.fulls.items made),
    )

pub returns : goal.returns
returns c =
    let group = c.args.group.now in
    let w = wave_vector c.args.wave.now in
    let arms = c.in_ok-arms.arms.arms.items in
    let t = c.args.t.now in
    let are = c.in_ok-arms.ensures in
    let table = c.requires.table in
    let fs = c.in_ok-families.families.items in
    let s = c.in_ok-families.ensures.list in
    let sizes = c.in_ok-families.ensures.sizes in
    let made = subst (λ (xs : List (Family _ _)). AreInducedFrom group arms t xs c.in_ok-fulls.fulls.items) c.deref.ensures.value c.in_ok-fulls.ensures in
    full_text_at group w arms t are table fs s sizes c.requires.reduced c.in_ok-fulls.fulls.items made c.in_ok-text.text.items
    (c.in_ok-text.ensures w (star group w arms t are table) (itself group w arms t are table fs s sizes) s.list
    (matrices group w arms t are table fs s sizes) (printed group w arms t are table c.requires.reduced)
    (subst (λ (xs : List (Full _ _)). AreFullsOf group (star group w arms t are table) (itself group w arms t are table fs s sizes) s.list
    (matrices group w arms t are table fs s sizes) xs) (sym c.deref-2.ensures.value)
    (fulls_of group w arms t are table fs s sizes c.in_ok-fulls.fulls.items made)))
