-- The list, the rows, and the lists apart.
use Rattle.std.proofs.Common.{sym, ◌∙◌, ap, subst, ◌<◌, length, map, Vec, Global}
use Rattle.std.proofs.lemmas.List.{length-map}
use Rattle.irr_algebra.specs.Fin.{to_nat}
use Rattle.irr_algebra.proofs.Indices.{from_nat, to_nat-lt}
use Rattle.irr_seitz.specs.PhaseMeaning.{sign_of}
use Rattle.irr_rep.specs.Twisted.{operation_places, phase_table, place_count}
use Rattle.irr_close.specs.StandsFor.{stands_for}
use Rattle.irr_close.proofs.Bareness.{first_of}
use Rattle.irr_little.specs.Line.{line_points}
use Rattle.irr_little.specs.Table.{listed_operations}
use Rattle.irr_little.proofs.LineTables.{before, length-before}
use Rattle.irr_mult.proofs.StarFacts.{some_operation}
use Rattle.irr_mult.specs.Listing.{item}
use Rattle.irr_mult.specs.declared.star.SmallCharacter.{SmallCharacter}
use Rattle.irr_compat.specs.LineTables.{IsLineHere, IsLineList}
use Rattle.irr_compat.proofs.Lines.{line_has_steps}
use Rattle.irr_compat.proofs.LineLists.{places_here, operations_here, sizes_here, rows_here}
use Rattle.irr_compat.proofs.relations.line_relations.Goals as goal

pub line_members-requires : goal.line_members-requires
line_members-requires g c =
    let group = c.args.group.now in
    let points = c.args.points.now in
    let t = c.args.line in
    let is = c.requires.table (before points) (first_of points c.requires.points) (length-before points c.requires.points) in record {
      steps = line_has_steps (sign_of group.phase) (stands_for group) (line_points (before points) points (first_of points c.requires.points))
          (listed_operations group (place_count t) (operation_places t) (some_operation group)) (phase_table t) (is.numbering (some_operation group)) (is.table (some_operation group));
    }

pub all_rows-requires-clause-line : goal.all_rows-requires-clause-line
all_rows-requires-clause-line g c =
    let points = c.args.points.now in record {
      others = before points;
      count = length-before points c.requires.points;
      past_end = first_of points c.requires.points;
      is_line = c.requires.table (before points) (first_of points c.requires.points) (length-before points c.requires.points);
      some = some_operation c.args.group.now;
      known = subst (IsLineList g.S.Scalar.order_of g.S.Scalar.value (phase_table c.args.line)) (sym c.deref.ensures.value) c.in_ok-members.ensures;
    }

pub returns : goal.returns
returns g c = λ n d size.
    let order = g.S.Scalar.order_of in
    let value = g.S.Scalar.value in
    let group = c.args.group.now in
    let t = c.args.line in
    let o = some_operation group in
    let is = c.requires.table n d size in
    let known = subst (IsLineList order value (phase_table t)) (sym c.deref.ensures.value) c.in_ok-members.ensures in
    let e : IsLineHere order value group c.args.points.now t c.deref.result.now = record { others = n; count = size; past_end = d; is_line = is; some = o; known = known } in
    let rows = c.in_ok-rows.ensures e in
    let cs = c.deref.result.now in
    let dims = c.in_ok-dims.ensures.0 ∙ ap (map (λ (x : SmallCharacter g.row.S.Denot). x.dim)) (sym c.deref.ensures.value) in
    let chars = c.in_ok-dims.ensures.1 ∙ ap (map (λ (x : SmallCharacter g.row.S.Denot). x.row.items)) (sym c.deref.ensures.value) in record {
      relations = record {
        operation = listed_operations group (place_count t) (operation_places t) o;
        numbering = is.numbering o;
        is_table = is.table o;
        list = known.list;
        complete = known.complete;
        in_order = known.in_order;
        at_point = rows.0;
      };
      shown = record {
        places = places_here group (line_points n c.args.points.now d) (operation_places t) (phase_table t) is;
        operations = λ p. operations_here group (line_points n c.args.points.now d) (operation_places t) (phase_table t) is p o;
        count = ap length dims ∙ length-map cs (λ (x : SmallCharacter g.row.S.Denot). x.dim) ∙ known.characters.count;
        dims = λ m. sizes_here order value (phase_table t) known.list cs known.characters
            (item cs (from_nat (length cs) (to_nat m) (subst (λ k. to_nat m < k) (sym known.characters.count) (to_nat-lt m)))) c.in_ok-dims.dims.items dims m;
        characters = rows_here order value (phase_table t) known.list cs known.characters
            (λ m. item cs (from_nat (length cs) (to_nat m) (subst (λ k. to_nat m < k) (sym known.characters.count) (to_nat-lt m)))) (map (λ (v : Vec g.row.S.Denot Global). v.items) c.in_ok-dims.chars.items) chars;
        rows = rows.1;
      };
    }
