-- One level more, below the others.
use Rattle.std.proofs.Common.{◌≡◌, ◌<◌, ℕ, sym, ◌∙◌, subst, length, slice_index, arith}
use Rattle.irr_rep.specs.Twisted.{phase_table, place_count}
use Rattle.irr_rep.specs.Subgroup.{IsSubgroup}
use Rattle.irr_rep.proofs.Members.{members-le}
use Rattle.irr_chain.specs.NormalSubgroup.{HasNormal}
use Rattle.irr_chain.specs.Series.{IsLevel, IsSeries}
use Rattle.irr_chain.proofs.Chains.{level_smaller, unchained_refuted, whole_in, whole_subgroup}
use Rattle.irr_chain.proofs.series.chain.Goals as goal

pub loop-alloc-init : goal.loop-alloc-init
loop-alloc-init c =
    let T = phase_table c.args.t.now in
    let all : c.loop-i.i ≡ place_count c.args.t.now = omega arith in
    let count : length c.loop-i.members.items ≡ place_count c.args.t.now = sym c.loop-i.members.ok.0 ∙ c.loop-i.invariant.count ∙ all in
    let numbers : (a : ℕ) → a < place_count c.args.t.now → slice_index c.loop-i.members.items a ≡ a =
    subst (λ n. (a : ℕ) → a < n → slice_index c.loop-i.members.items a ≡ a) all c.loop-i.invariant.numbers in
    record {
      subgroup = whole_subgroup T c.loop-i.members.items count numbers;
      series = subst (IsSeries T c.loop-i.members.items) (sym c.new-levels.ensures.items) (whole_in T c.loop-i.members.items count numbers);
      one_place = λ e. c.new-levels.ensures.items;
    }

pub loop-alloc-smaller : goal.loop-alloc-smaller
loop-alloc-smaller c =
    let T = phase_table c.args.t.now in
    let level : IsLevel T c.in-Some.level c.loop-alloc.members.items =
    subst (IsLevel T c.in-Some.level) c.deref.ensures.value (rw c.in-Some.is at c.in_ok-level.ensures) in
    subst (λ v. length v < length c.loop-alloc.members.items) (sym (c.in_ok-members-in-Some.ensures.items ∙ c.deref-in-Some.ensures.value))
    (level_smaller T c.in-Some.level c.loop-alloc.members.items level)

pub loop-alloc-preserved : goal.loop-alloc-preserved
loop-alloc-preserved c =
    let T = phase_table c.args.t.now in
    let level : IsLevel T c.in-Some.level c.loop-alloc.members.items =
    subst (IsLevel T c.in-Some.level) c.deref.ensures.value (rw c.in-Some.is at c.in_ok-level.ensures) in
    let copied : c.in_ok-members-in-Some.members.items ≡ c.in-Some.level.members.items = c.in_ok-members-in-Some.ensures.items ∙ c.deref-in-Some.ensures.value in
    record {
      subgroup = subst (IsSubgroup T) (sym copied) level.normal.subgroup;
      series = subst (IsSeries T c.in_ok-members-in-Some.members.items) (sym c.in_ok-insert-in-Some.ensures.items)
          (sym copied, (c.loop-alloc.members.items, (level, c.loop-alloc.invariant.series)));
      one_place = λ e. absurd (
          let few : length c.loop-alloc.members.items < 2 = (
          let l = members-le c.args.t.now c.loop-alloc.members.items c.loop-alloc.invariant.subgroup in omega arith) in
          let more : 1 < length c.loop-alloc.members.items = omega (arith, c.loop-alloc.members.ok.0) in
          omega arith);
    }

pub returns-in-None-clause-refusal : goal.returns-in-None-clause-refusal
returns-in-None-clause-refusal c =
    let T = phase_table c.args.t.now in
    let none = rw c.in-None.is at c.in_ok-level.ensures in
    record {
      subgroup = c.loop-alloc.invariant.subgroup;
      more_than_one = omega (arith, c.loop-alloc.members.ok.0);
      none_of_two = subst (λ v. HasNormal T v 2 → ⊥) c.deref.ensures.value none.0;
      none_of_three = subst (λ v. HasNormal T v 3 → ⊥) c.deref.ensures.value none.1;
    }

pub returns-in-None-clause-complete : goal.returns-in-None-clause-complete
returns-in-None-clause-complete c =
    let T = phase_table c.args.t.now in
    let none = rw c.in-None.is at c.in_ok-level.ensures in
    λ steps. absurd (unchained_refuted T c.loop-alloc.members.items (record {
      subgroup = c.loop-alloc.invariant.subgroup;
      more_than_one = omega (arith, c.loop-alloc.members.ok.0);
      none_of_two = subst (λ v. HasNormal T v 2 → ⊥) c.deref.ensures.value none.0;
      none_of_three = subst (λ v. HasNormal T v 3 → ⊥) c.deref.ensures.value none.1;
    }) steps)
