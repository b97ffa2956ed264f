use Rattle.std.proofs.Common.{◌<◌, length, arith, rules}
use Rattle.irr_close.specs.Centring.{IsSubtractRefusal}
use Rattle.irr_close.proofs.Keeping.{longer_trans}
use Rattle.irr_close.proofs.Lattice.{with_centring-longer, with_centring-partial, refused_centring}
use Rattle.irr_close.proofs.Settling.{same_start, cell_small, cell_in, cell_lcm, difference_centring, more_differences, all_differences}
use Rattle.irr_close.proofs.centring.subtract.Goals as goal

pub difference-requires-clause-small : goal.difference-requires-clause-small
difference-requires-clause-small c = cell_small c.args.centrings.now.items c.index.result.now c.args.i c.requires.in_cell c.requires.place
    c.index.ensures

pub difference-requires-clause-other_small : goal.difference-requires-clause-other_small
difference-requires-clause-other_small c = cell_small c.args.centrings.now.items c.index-in-loop-j.result.now c.loop-j.j c.requires.in_cell
    (let l : c.loop-j.j < length c.args.centrings.now.items = (let a = c.loop-j-test.true in let b = c.requires.place in omega arith) in l)
    (same_start c.args.centrings.now.items c.loop-j.centrings.items c.index-in-loop-j.result.now c.loop-j.j c.loop-j.invariant.longer
    (let l : c.loop-j.j < length c.args.centrings.now.items = (let a = c.loop-j-test.true in let b = c.requires.place in omega arith) in l)
    c.index-in-loop-j.ensures)

pub difference-requires-clause-in_cell : goal.difference-requires-clause-in_cell
difference-requires-clause-in_cell c = cell_in c.args.centrings.now.items c.index.result.now c.args.i c.requires.in_cell c.requires.place
    c.index.ensures

pub difference-requires-clause-other_in_cell : goal.difference-requires-clause-other_in_cell
difference-requires-clause-other_in_cell c = cell_in c.args.centrings.now.items c.index-in-loop-j.result.now c.loop-j.j c.requires.in_cell
    (let l : c.loop-j.j < length c.args.centrings.now.items = (let a = c.loop-j-test.true in let b = c.requires.place in omega arith) in l)
    (same_start c.args.centrings.now.items c.loop-j.centrings.items c.index-in-loop-j.result.now c.loop-j.j c.loop-j.invariant.longer
    (let l : c.loop-j.j < length c.args.centrings.now.items = (let a = c.loop-j-test.true in let b = c.requires.place in omega arith) in l)
    c.index-in-loop-j.ensures)

pub difference-requires-clause-denominator : goal.difference-requires-clause-denominator
difference-requires-clause-denominator c = λ m h. cell_lcm c.args.centrings.now.items c.index.result.now c.index-in-loop-j.result.now c.args.i
    c.loop-j.j m c.requires.in_cell c.requires.place c.index.ensures
    (let l : c.loop-j.j < length c.args.centrings.now.items = (let a = c.loop-j-test.true in let b = c.requires.place in omega arith) in l)
    (same_start c.args.centrings.now.items c.loop-j.centrings.items c.index-in-loop-j.result.now c.loop-j.j c.loop-j.invariant.longer
    (let l : c.loop-j.j < length c.args.centrings.now.items = (let a = c.loop-j-test.true in let b = c.requires.place in omega arith) in l)
    c.index-in-loop-j.ensures) h

pub difference-requires-in-loop-j-clause-small : goal.difference-requires-in-loop-j-clause-small
difference-requires-in-loop-j-clause-small c = cell_small c.args.centrings.now.items c.index-in-loop-j.result.now c.loop-j.j c.requires.in_cell
    (let l : c.loop-j.j < length c.args.centrings.now.items = (let a = c.loop-j-test.true in let b = c.requires.place in omega arith) in l)
    (same_start c.args.centrings.now.items c.loop-j.centrings.items c.index-in-loop-j.result.now c.loop-j.j c.loop-j.invariant.longer
    (let l : c.loop-j.j < length c.args.centrings.now.items = (let a = c.loop-j-test.true in let b = c.requires.place in omega arith) in l)
    c.index-in-loop-j.ensures)

pub difference-requires-in-loop-j-clause-other_small : goal.difference-requires-in-loop-j-clause-other_small
difference-requires-in-loop-j-clause-other_small c = cell_small c.args.centrings.now.items c.index.result.now c.args.i c.requires.in_cell
    c.requires.place c.index.ensures

pub difference-requires-in-loop-j-clause-in_cell : goal.difference-requires-in-loop-j-clause-in_cell
difference-requires-in-loop-j-clause-in_cell c = cell_in c.args.centrings.now.items c.index-in-loop-j.result.now c.loop-j.j c.requires.in_cell
    (let l : c.loop-j.j < length c.args.centrings.now.items = (let a = c.loop-j-test.true in let b = c.requires.place in omega arith) in l)
    (same_start c.args.centrings.now.items c.loop-j.centrings.items c.index-in-loop-j.result.now c.loop-j.j c.loop-j.invariant.longer
    (let l : c.loop-j.j < length c.args.centrings.now.items = (let a = c.loop-j-test.true in let b = c.requires.place in omega arith) in l)
    c.index-in-loop-j.ensures)

pub difference-requires-in-loop-j-clause-other_in_cell : goal.difference-requires-in-loop-j-clause-other_in_cell
difference-requires-in-loop-j-clause-other_in_cell c = cell_in c.args.centrings.now.items c.index.result.now c.args.i c.requires.in_cell
    c.requires.place c.index.ensures

pub difference-requires-in-loop-j-clause-denominator : goal.difference-requires-in-loop-j-clause-denominator
difference-requires-in-loop-j-clause-denominator c = λ m h. cell_lcm c.args.centrings.now.items c.index-in-loop-j.result.now c.index.result.now
    c.loop-j.j c.args.i m c.requires.in_cell
    (let l : c.loop-j.j < length c.args.centrings.now.items = (let a = c.loop-j-test.true in let b = c.requires.place in omega arith) in l)
    (same_start c.args.centrings.now.items c.loop-j.centrings.items c.index-in-loop-j.result.now c.loop-j.j c.loop-j.invariant.longer
    (let l : c.loop-j.j < length c.args.centrings.now.items = (let a = c.loop-j-test.true in let b = c.requires.place in omega arith) in l)
    c.index-in-loop-j.ensures) c.requires.place c.index.ensures h

pub returns-in_err-add-clause-refused : goal.returns-in_err-add-clause-refused
returns-in_err-add-clause-refused c =
    let r : IsSubtractRefusal c.args.centrings.now.items c.in_err-add.field-0.0 = record {
      is = λ gs inv p. refused_centring gs c.loop-j.centrings.items c.difference.result c.in_err-add.field-0.0 (c.loop-j.invariant.lattice gs inv p)
          (difference_centring gs c.args.centrings.now.items c.index.result.now c.index-in-loop-j.result.now c.difference.result c.args.i c.loop-j.j
          inv p c.requires.place c.index.ensures
          (let l : c.loop-j.j < length c.args.centrings.now.items = (let a = c.loop-j-test.true in let b = c.requires.place in omega arith) in l)
          (same_start c.args.centrings.now.items c.loop-j.centrings.items c.index-in-loop-j.result.now c.loop-j.j c.loop-j.invariant.longer
          (let l : c.loop-j.j < length c.args.centrings.now.items = (let a = c.loop-j-test.true in let b = c.requires.place in omega arith) in l)
          c.index-in-loop-j.ensures) c.difference.ensures.in_cell c.difference.ensures.divides c.difference.ensures.whole)
          c.in_err-add.ensures.refused;
    } in
    search rules

pub returns-in_err-add-2-clause-refused : goal.returns-in_err-add-2-clause-refused
returns-in_err-add-2-clause-refused c =
    let r : IsSubtractRefusal c.args.centrings.now.items c.in_err-add-2.field-0.0 = record {
      is = λ gs inv p. refused_centring gs c.add.new.centrings.items c.difference-in-loop-j.result c.in_err-add-2.field-0.0
          (with_centring-partial gs c.loop-j.centrings.items c.difference.result c.add.new.centrings.items (c.loop-j.invariant.lattice gs inv p)
          (difference_centring gs c.args.centrings.now.items c.index.result.now c.index-in-loop-j.result.now c.difference.result c.args.i c.loop-j.j
          inv p c.requires.place c.index.ensures
          (let l : c.loop-j.j < length c.args.centrings.now.items = (let a = c.loop-j-test.true in let b = c.requires.place in omega arith) in l)
          (same_start c.args.centrings.now.items c.loop-j.centrings.items c.index-in-loop-j.result.now c.loop-j.j c.loop-j.invariant.longer
          (let l : c.loop-j.j < length c.args.centrings.now.items = (let a = c.loop-j-test.true in let b = c.requires.place in omega arith) in l)
          c.index-in-loop-j.ensures) c.difference.ensures.in_cell c.difference.ensures.divides c.difference.ensures.whole)
          c.in_ok-add.ensures.kept)
          (difference_centring gs c.args.centrings.now.items c.index-in-loop-j.result.now c.index.result.now c.difference-in-loop-j.result c.loop-j.j
          c.args.i inv p (let l : c.loop-j.j < length c.args.centrings.now.items = (let a = c.loop-j-test.true in let b = c.requires.place in
          omega arith) in l) (same_start c.args.centrings.now.items c.loop-j.centrings.items c.index-in-loop-j.result.now c.loop-j.j
          c.loop-j.invariant.longer
          (let l : c.loop-j.j < length c.args.centrings.now.items = (let a = c.loop-j-test.true in let b = c.requires.place in omega arith) in l)
          c.index-in-loop-j.ensures) c.requires.place c.index.ensures c.difference-in-loop-j.ensures.in_cell
          c.difference-in-loop-j.ensures.divides c.difference-in-loop-j.ensures.whole) c.in_err-add-2.ensures.refused;
    } in
    search rules

pub loop-j-preserved : goal.loop-j-preserved
loop-j-preserved c = record {
  longer = longer_trans c.args.centrings.now.items c.add.new.centrings.items c.add-in-loop-j.new.centrings.items
      (longer_trans c.args.centrings.now.items c.loop-j.centrings.items c.add.new.centrings.items c.loop-j.invariant.longer
      (with_centring-longer c.loop-j.centrings.items c.difference.result c.add.new.centrings.items c.in_ok-add.ensures.kept))
      (with_centring-longer c.add.new.centrings.items c.difference-in-loop-j.result c.add-in-loop-j.new.centrings.items c.in_ok-add-2.ensures.kept);
  differences = more_differences c.args.centrings.now.items c.loop-j.centrings.items c.add.new.centrings.items c.add-in-loop-j.new.centrings.items
      c.index.result.now c.index-in-loop-j.result.now c.difference.result c.difference-in-loop-j.result c.loop-j.j
      (let l : c.loop-j.j < length c.args.centrings.now.items = (let a = c.loop-j-test.true in let b = c.requires.place in omega arith) in l)
      (same_start c.args.centrings.now.items c.loop-j.centrings.items c.index-in-loop-j.result.now c.loop-j.j c.loop-j.invariant.longer
      (let l : c.loop-j.j < length c.args.centrings.now.items = (let a = c.loop-j-test.true in let b = c.requires.place in omega arith) in l)
      c.index-in-loop-j.ensures) c.loop-j.invariant.differences c.in_ok-add.ensures.kept c.in_ok-add-2.ensures.kept c.difference.ensures.whole
      c.difference-in-loop-j.ensures.whole;
  lattice = λ gs inv p. with_centring-partial gs c.add.new.centrings.items c.difference-in-loop-j.result c.add-in-loop-j.new.centrings.items
      (with_centring-partial gs c.loop-j.centrings.items c.difference.result c.add.new.centrings.items (c.loop-j.invariant.lattice gs inv p)
      (difference_centring gs c.args.centrings.now.items c.index.result.now c.index-in-loop-j.result.now c.difference.result c.args.i c.loop-j.j inv p
      c.requires.place c.index.ensures
      (let l : c.loop-j.j < length c.args.centrings.now.items = (let a = c.loop-j-test.true in let b = c.requires.place in omega arith) in l)
      (same_start c.args.centrings.now.items c.loop-j.centrings.items c.index-in-loop-j.result.now c.loop-j.j c.loop-j.invariant.longer
      (let l : c.loop-j.j < length c.args.centrings.now.items = (let a = c.loop-j-test.true in let b = c.requires.place in omega arith) in l)
      c.index-in-loop-j.ensures) c.difference.ensures.in_cell c.difference.ensures.divides c.difference.ensures.whole) c.in_ok-add.ensures.kept)
      (difference_centring gs c.args.centrings.now.items c.index-in-loop-j.result.now c.index.result.now c.difference-in-loop-j.result c.loop-j.j
      c.args.i inv p (let l : c.loop-j.j < length c.args.centrings.now.items = (let a = c.loop-j-test.true in let b = c.requires.place in
      omega arith) in l) (same_start c.args.centrings.now.items c.loop-j.centrings.items c.index-in-loop-j.result.now c.loop-j.j
      c.loop-j.invariant.longer
      (let l : c.loop-j.j < length c.args.centrings.now.items = (let a = c.loop-j-test.true in let b = c.requires.place in omega arith) in l)
      c.index-in-loop-j.ensures) c.requires.place c.index.ensures c.difference-in-loop-j.ensures.in_cell c.difference-in-loop-j.ensures.divides
      c.difference-in-loop-j.ensures.whole) c.in_ok-add-2.ensures.kept;
}

pub returns-clause-differences : goal.returns-clause-differences
returns-clause-differences c = λ d. all_differences c.args.centrings.now.items c.loop-j.centrings.items c.index.result.now c.args.i c.loop-j.j d
    c.requires.place c.index.ensures
    (let l : c.args.i < c.loop-j.j = (let a = c.loop-j-test.false in omega arith) in l) c.loop-j.invariant.differences
