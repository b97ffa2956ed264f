-- The search for the row of the conjugate.
use Rattle.std.proofs.Common.{◌≡◌, ◌<◌, ◌+◌, sym, ◌∙◌, ap, subst, ℕ, List, [], length, map, get_or, true, false, Fits, w32, arith, rules}
use Rattle.std.proofs.lemmas.List.{length-map}
use Rattle.irr_algebra.specs.Fin.{to_nat}
use Rattle.irr_algebra.proofs.Indices.{from_nat, to_nat-from_nat}
use Rattle.irr_number.specs.Number.{Number}
use Rattle.irr_rep.specs.Twisted.{place_count}
use Rattle.irr_char.specs.Characters.{IsSmallRow}
use Rattle.irr_climb.proofs.ListRows.{row_small, rows_count, rows_within, slice_is, slice_row, slice_small}
use Rattle.irr_climb.proofs.RowSearch.{coming_below, coming_more, coming_start, found_turn, IsSameRow}
use Rattle.irr_climb.proofs.step.Step.turn.Goals as goal

fits_small : (m n : ℕ) → m < n → n < 1000 → Fits w32 (m + 1)
fits_small m n l few = search rules

same_rows : {S : Type 0} (value : (n : ℕ) → S → Number n) (M h : ℕ) (left row right other : List S) → left ≡ row → other ≡ right
    → IsSameRow value M h row other → IsSameRow value M h left right
same_rows value M h left row right other p q same = subst (λ xs. IsSameRow value M h xs right) (sym p) (subst (IsSameRow value M h row) q same)

pub conjugate_row-requires : goal.conjugate_row-requires
conjugate_row-requires g c =
    let r = c.requires.list in (
      r.0,
      r.1,
      slice_small g.S.Scalar.order_of g.S.Scalar.value (λ v. v.items) r.1 r.2 r.3 c.args.rows.now r.4 c.args.l c.index-rows-l.result
          c.requires.place c.index-rows-l.is c.as_slice.result.now c.as_slice.ensures.value,
    )

pub loop-m-init : goal.loop-m-init
loop-m-init g c =
    let order = g.S.Scalar.order_of in
    let value = g.S.Scalar.value in
    let step = c.args.self.now in
    let rows = c.args.rows.now in
    let r = c.requires.list in
    let L = r.2 in
    let inside : c.args.l < L.count = subst (λ n. c.args.l < n) (rows_count order value (λ v. v.items) r.1 L r.3 rows r.4) c.requires.place in
    let a = from_nat L.count c.args.l inside in
    let traces = slice_row order value (λ v. v.items) r.1 L r.3 rows r.4 c.args.l c.index-rows-l.result c.requires.place c.index-rows-l.is
    c.as_slice.result.now c.as_slice.ensures.value a (to_nat-from_nat L.count c.args.l inside) in
    let few = slice_small order value (λ v. v.items) r.1 L r.3 rows r.4 c.args.l c.index-rows-l.result c.requires.place c.index-rows-l.is
    c.as_slice.result.now c.as_slice.ensures.value in
    coming_start order value r.1 L r.3 (map (λ v. v.items) rows) r.4 c.in_ok-conjugate.conjugate.items a
    (c.in_ok-conjugate.ensures.conjugate r.0 r.1 (L.size a) (L.member a) traces)
    (c.in_ok-conjugate.ensures.small r.0 r.1 few)
    (row_small order value r.1 L r.3 (map (λ v. v.items) rows) r.4)

pub is_same_row-requires : goal.is_same_row-requires
is_same_row-requires g c =
    let order = g.S.Scalar.order_of in
    let value = g.S.Scalar.value in
    let h = place_count c.args.self.now.inner in
    let rows = c.args.rows.now in
    let m = c.loop-m.m in
    let i = c.loop-m.invariant in
    let below = coming_below order value h (map (λ v. v.items) rows) c.in_ok-conjugate.conjugate.items m i in (
      i.M,
      h,
      subst (IsSmallRow order value i.M h) (sym c.as_slice-in-loop-m.ensures.value) i.small,
      subst (IsSmallRow order value i.M h)
          (slice_is (λ v. v.items) rows m c.index-rows-m.result (subst (λ n. m < n) (length-map rows (λ v. v.items)) below) c.index-rows-m.is
          c.as_slice-in-loop-m-2.result.now c.as_slice-in-loop-m-2.ensures.value [])
          (i.smalls m [] below),
    )

pub overflow_add-m : goal.overflow_add-m
overflow_add-m g c =
    let order = g.S.Scalar.order_of in
    let value = g.S.Scalar.value in
    let h = place_count c.args.self.now.inner in
    let rows = c.args.rows.now in
    let m = c.loop-m.m in
    let r = c.requires.list in
    let below = coming_below order value h (map (λ v. v.items) rows) c.in_ok-conjugate.conjugate.items m c.loop-m.invariant in
    let few = rows_within order value (λ v. v.items) r.1 r.2 r.3 rows r.4 in
    fits_small m (length rows) (subst (λ n. m < n) (length-map rows (λ v. v.items)) below) (omega (arith, few))

pub loop-m-preserved : goal.loop-m-preserved
loop-m-preserved g c =
    let order = g.S.Scalar.order_of in
    let value = g.S.Scalar.value in
    let h = place_count c.args.self.now.inner in
    let rows = c.args.rows.now in
    let m = c.loop-m.m in
    let i = c.loop-m.invariant in
    let row = c.in_ok-conjugate.conjugate.items in
    let below = coming_below order value h (map (λ v. v.items) rows) row m i in
    let left = c.as_slice-in-loop-m.result.now in
    let right = c.as_slice-in-loop-m-2.result.now in
    let read = slice_is (λ v. v.items) rows m c.index-rows-m.result (subst (λ n. m < n) (length-map rows (λ v. v.items)) below) c.index-rows-m.is
    right c.as_slice-in-loop-m-2.ensures.value [] in
    coming_more order value h (map (λ v. v.items) rows) row m i [] (λ same.
    let t : c.is_same_row.result ≡ true = (c.is_same_row.ensures i.M h
    (subst (IsSmallRow order value i.M h) (sym c.as_slice-in-loop-m.ensures.value) i.small)
    (subst (IsSmallRow order value i.M h) read (i.smalls m [] below))).1
    (same_rows value i.M h left row right (get_or (map (λ v. v.items) rows) m []) c.as_slice-in-loop-m.ensures.value read same) in
    let f : c.is_same_row.result ≡ false = c.loop-m-test.true in
    let bad : false ≡ true = sym f ∙ t in
    cc)

pub returns-clause-turn : goal.returns-clause-turn
returns-clause-turn g c M is L full listed a b p q =
    let order = g.S.Scalar.order_of in
    let value = g.S.Scalar.value in
    let h = place_count c.args.self.now.inner in
    let rows = c.args.rows.now in
    let m = c.loop-m.m in
    let row = c.in_ok-conjugate.conjugate.items in
    let inside = subst (λ n. m < n) (length-map rows (λ v. v.items))
    (coming_below order value h (map (λ v. v.items) rows) row m c.loop-m.invariant) in
    let left = c.as_slice-in-loop-m.result.now in
    let right = c.as_slice-in-loop-m-2.result.now in
    let own = slice_small order value (λ v. v.items) is L full rows listed c.args.l c.index-rows-l.result c.requires.place c.index-rows-l.is
    c.as_slice.result.now c.as_slice.ensures.value in
    let traces = slice_row order value (λ v. v.items) is L full rows listed c.args.l c.index-rows-l.result c.requires.place c.index-rows-l.is
    c.as_slice.result.now c.as_slice.ensures.value a p in
    let few = subst (IsSmallRow order value M h) (sym c.as_slice-in-loop-m.ensures.value) (c.in_ok-conjugate.ensures.small M is own) in
    let other = slice_small order value (λ v. v.items) is L full rows listed m c.index-rows-m.result inside c.index-rows-m.is right
    c.as_slice-in-loop-m-2.ensures.value in
    let read = slice_is (λ v. v.items) rows m c.index-rows-m.result inside c.index-rows-m.is right c.as_slice-in-loop-m-2.ensures.value [] in
    let t : c.is_same_row.result ≡ true = c.loop-m-test.false in
    found_turn order value is L full (map (λ v. v.items) rows) listed row a
    (c.in_ok-conjugate.ensures.conjugate M is (L.size a) (L.member a) traces) b []
    (same_rows value M h row left (get_or (map (λ v. v.items) rows) (to_nat b) []) right (sym c.as_slice-in-loop-m.ensures.value)
    (sym read ∙ ap (λ k. get_or (map (λ v. v.items) rows) k []) (sym q))
    ((c.is_same_row.ensures M h few other).0 t))
