use Rattle.std.proofs.Common.{◌≡◌, sym, ◌∙◌, subst, not, inl, refl, true, false, Bool}
use Rattle.std.specs.List.{list_any}
use Rattle.irr_close.specs.Distinct.{line}
use Rattle.irr_close.proofs.Reduction.{same_line, found_line}
use Rattle.irr_close.proofs.distinct.keep_new.Goals as goal

seen : (b : Bool) → false ≡ not b → b ≡ true
seen true h = refl
seen false h = h

pub returns-else-is_new-clause-kept : goal.returns-else-is_new-clause-kept
returns-else-is_new-clause-kept c = inl (
  found_line c.args.kept.now.items c.args.op (subst (λ ls. list_any (same_line (line c.args.op)) ls ≡ true) c.requires
      (seen _ (sym c.if-is_new.false ∙ c.in_ok-is_new.ensures.added))),
  refl,
)
