-- The status of each reason.
use Rattle.std.proofs.Common.{refl, subst}
use Rattle.irr_close.specs.declared.CloseError.TheVariants as limits
use Rattle.irr_close.specs.declared.group.Group.{Group}
use Rattle.irr_input.specs.declared.input.SubSpec.{SubSpec}
use Rattle.irr_subduce.specs.Subgroup.{IsRefused}
use Rattle.irr_subduce.specs.declared.error.SubError.{SubError}
use Rattle.irr_top.specs.Asked.{operations_of}
use Rattle.irr_top.specs.SubgroupOf.GivesNone.{singular}
use Rattle.irr_top.proofs.Subgroups.{limit_of, number_within, outside_of}
use Rattle.irr_top.proofs.subduce.status_of.Goals as goal

abbrev Refused : Group → SubSpec → SubError → Type 0
Refused group section e = IsRefused group section.setting (operations_of section.gens.items) e

pub line_of-line-requires : goal.line_of-line-requires
line_of-line-requires c =
    let r = subst (Refused c.requires.refused.0 c.args.section.now) c.in-NotSubgroup.is c.requires.refused.1 in
    number_within c.requires.refused.0 c.args.section.now c.in-NotSubgroup.i r.1

pub returns-in-Singular : goal.returns-in-Singular
returns-in-Singular c = λ group r. singular (subst (Refused group c.args.section.now) c.in-Singular.is r)

pub returns-in-NotSubgroup : goal.returns-in-NotSubgroup
returns-in-NotSubgroup c = λ group r. let o = subst (Refused group c.args.section.now) c.in-NotSubgroup.is r in
    outside_of group c.args.section.now c.line_of-line.result c.in-NotSubgroup.i c.line_of-line.ensures.basis c.line_of-line.ensures.generator o.0 o.1

pub returns-in-Rotations : goal.returns-in-Rotations
returns-in-Rotations c = λ group r. let o = subst (Refused group c.args.section.now) c.in-Rotations.is r in
    limit_of group c.args.section.now limits.Rotations refl o.0 o.1

pub returns-in-Denominator : goal.returns-in-Denominator
returns-in-Denominator c = λ group r. let o = subst (Refused group c.args.section.now) c.in-Denominator.is r in
    limit_of group c.args.section.now limits.Denominator refl o.0 o.1

pub returns-in-Centrings : goal.returns-in-Centrings
returns-in-Centrings c = λ group r. let o = subst (Refused group c.args.section.now) c.in-Centrings.is r in
    limit_of group c.args.section.now limits.Centrings refl o.0 o.1
