-- All of them.
use Rattle.std.proofs.Common.{◌∙◌, sym, ap, subst, ◌++◌, List, drop, map}
use Rattle.std.specs.List.{All}
use Rattle.irr_space.specs.Operation.{translation}
use Rattle.irr_space.specs.CanonicalOperation.{IsInCell}
use Rattle.irr_seitz.specs.OperationMeaning.{operation}
use Rattle.irr_seitz.specs.declared.op.Op.{Op}
use Rattle.irr_rat.specs.VectorMeaning.{vector}
use Rattle.irr_rat.specs.declared.vec3.Vec3.{Vec3}
use Rattle.irr_close.specs.StandsFor.{stands_for}
use Rattle.irr_full_text.specs.FullText.{AreGeneratorsOf}
use Rattle.irr_full_text.specs.Reading.{ArePrintable}
use Rattle.irr_full_text.proofs.Translations.{centrings_in_cell, generators_are, generators_printable}
use Rattle.irr_full_text.proofs.generating.generators.Goals as goal

pub push_translations-requires : goal.push_translations-requires
push_translations-requires c = subst (All (λ (v : Vec3). IsInCell (vector v)))
    (sym (c.split_at.ensures.back ∙ ap (drop 1) c.centrings.ensures.list)) (centrings_in_cell c.args.group.now)

pub returns-clause-generators : goal.returns-clause-generators
returns-clause-generators c = λ n ops e same.
    let group = c.args.group.now in
    subst (λ (xs : List Op). AreGeneratorsOf (stands_for group) ops (map operation xs))
    (sym (c.in_ok-extend_from_slice.ensures.items ∙ ap (λ (xs : List Op). c.push_translations.new.ops.items ++ xs)
    (c.split_at-2.ensures.back ∙ ap (drop 1) c.ops.ensures.list)))
    (generators_are group c.in_ok-gens.gens.items c.push_translations.new.ops.items c.in_ok-gens.ensures.are
    (c.in_ok-push_translations.ensures.are ∙ ap (λ (vs : List Vec3). map operation c.in_ok-gens.gens.items
    ++ map (λ (v : Vec3). translation (vector v)) vs)
    (c.split_at.ensures.back ∙ ap (drop 1) c.centrings.ensures.list)) n ops e same)

pub returns-clause-printable : goal.returns-clause-printable
returns-clause-printable c =
    let group = c.args.group.now in
    subst (ArePrintable group)
    (sym (c.in_ok-extend_from_slice.ensures.items ∙ ap (λ (xs : List Op). c.push_translations.new.ops.items ++ xs)
    (c.split_at-2.ensures.back ∙ ap (drop 1) c.ops.ensures.list)))
    (generators_printable group c.in_ok-gens.gens.items c.push_translations.new.ops.items c.in_ok-gens.ensures.are
    (c.in_ok-push_translations.ensures.are ∙ ap (λ (vs : List Vec3). map operation c.in_ok-gens.gens.items
    ++ map (λ (v : Vec3). translation (vector v)) vs)
    (c.split_at.ensures.back ∙ ap (drop 1) c.centrings.ensures.list)) (c.in_ok-push_translations.ensures.small
    c.in_ok-gens.ensures.small))
