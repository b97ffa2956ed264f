-- One more part.
use Rattle.std.proofs.Common.{◌∙◌, ◌++◌, sym, ap, append-nil, get_or}
use Rattle.std.specs.List.{flat_map}
use Rattle.std.proofs.lemmas.List.{get_or_default, take_all}
use Rattle.irr_report.proofs.Pieces.{flat_map_step}
use Rattle.irr_site.specs.declared.part.SmallPart.{SmallPart}
use Rattle.irr_site_text.specs.SiteText.{part_line}
use Rattle.irr_site_text.proofs.push_parts.Goals as goal

pub loop-part-init : goal.loop-part-init
loop-part-init c = sym (append-nil c.args.text.now.items)

-- what stands past the end
none : SmallPart
none = record { label = 0; mult = 0; dim = 0 }

pub loop-part-preserved : goal.loop-part-preserved
unfolding none
loop-part-preserved c =
    let xs = c.args.parts.now in
    let i = c.loop-part.part-index in
    let x = get_or xs i none in
    c.in_ok-push_part.ensures ∙ flat_map_step part_line c.args.text.now.items c.loop-part.text.items xs i x c.loop-part-test.true
    (get_or_default xs i none x c.loop-part-test.true) c.loop-part.invariant

pub returns : goal.returns
returns c = c.loop-part.invariant ∙ ap (λ xs. c.args.text.now.items ++ flat_map part_line xs)
    (take_all c.loop-part.part-index c.args.parts.now c.loop-part-test.false)
