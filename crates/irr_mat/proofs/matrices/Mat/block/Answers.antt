-- The matrix of blocks, entry by entry.
use Rattle.std.proofs.Common.{◌≡◌, sym, ◌∙◌, ap, ap₂, subst, ◌*◌, ◌/◌, ◌%◌, ◌^◌, ◌<◌, ◌≤◌, map, length, IfSome, arith}
use native.Mathlib.Nat as Nat
use Rattle.std.proofs.lemmas.Option.{IfSome_then}
use Rattle.irr_algebra.specs.Fin.{to_nat}
use Rattle.irr_algebra.specs.Pair.{times}
use Rattle.irr_algebra.proofs.Pairs.{times-mul}
use Rattle.irr_mat.specs.Blocks.{block_matrix, block_of, part_at}
use Rattle.irr_mat.specs.Entries.{first_order, IsEntry, matrix_of}
use Rattle.irr_mat.proofs.Blocks.{block-entry, joinable-blocks, joinable-cols, joinable-few, joinable-rows, joinable-some, joinable-width, part-is, quotient-lt, read, remainder-lt, width-at}
use Rattle.irr_mat.proofs.Entries.{filled-push, filled-next, filled-done, filled-orders, filled-matrix}
use Rattle.irr_mat.proofs.matrices.Mat.block.Goals as goal

pub bounds-parts-0 : goal.bounds-parts-0
bounds-parts-0 g c =
    let value = g.S.Scalar.value in
    let order = g.S.Scalar.order_of in
    let n = c.args.order.now.n in
    let parts = c.args.parts.now in
    let p = length parts in
    let h = c.requires.blocks in
    let height = c.shape_of_blocks-height.result.0 in
    let width = c.shape_of_blocks-height.result.1 in
    let shape = c.shape_of_blocks-height.ensures.shape h.r h.c h.blocks.shapes in
    let positive = c.shape_of_blocks-height.ensures.positive in
    joinable-some (λ v. v.items) parts (λ m. m.rows) (λ m. m.cols) (λ m. first_order order m.entries.items) n h

pub overflow_cast-across : goal.overflow_cast-across
overflow_cast-across g c =
    let value = g.S.Scalar.value in
    let order = g.S.Scalar.order_of in
    let n = c.args.order.now.n in
    let parts = c.args.parts.now in
    let p = length parts in
    let h = c.requires.blocks in
    let height = c.shape_of_blocks-height.result.0 in
    let width = c.shape_of_blocks-height.result.1 in
    let shape = c.shape_of_blocks-height.ensures.shape h.r h.c h.blocks.shapes in
    let positive = c.shape_of_blocks-height.ensures.positive in
    let across = c.len-across.result in
    let wide : across ≡ h.q = c.len-across.ensures ∙ c.index-parts-0.result.ok.0 ∙ joinable-width (λ v. v.items) parts (λ m. m.rows) (λ m. m.cols) (λ m. first_order order m.entries.items) n h 0 c.index-parts-0.result (read parts 0 c.index-parts-0.result (joinable-some (λ v. v.items) parts (λ m. m.rows) (λ m. m.cols) (λ m. first_order order m.entries.items) n h) c.index-parts-0.is) in
    let few : across < 2 ^ 32 = joinable-few (λ v. v.items) parts (λ m. m.rows) (λ m. m.cols) (λ m. first_order order m.entries.items) n h across width wide shape.1 positive.1 in omega (arith, few)

pub overflow_mul-rows : goal.overflow_mul-rows
overflow_mul-rows g c =
    let value = g.S.Scalar.value in
    let order = g.S.Scalar.order_of in
    let n = c.args.order.now.n in
    let parts = c.args.parts.now in
    let p = length parts in
    let h = c.requires.blocks in
    let height = c.shape_of_blocks-height.result.0 in
    let width = c.shape_of_blocks-height.result.1 in
    let shape = c.shape_of_blocks-height.ensures.shape h.r h.c h.blocks.shapes in
    let positive = c.shape_of_blocks-height.ensures.positive in
    let few : p * height < 2 ^ 32 = joinable-rows (λ v. v.items) parts (λ m. m.rows) (λ m. m.cols) (λ m. first_order order m.entries.items) n h height shape.0 in omega (arith, few)

pub overflow_mul-cols : goal.overflow_mul-cols
overflow_mul-cols g c =
    let value = g.S.Scalar.value in
    let order = g.S.Scalar.order_of in
    let n = c.args.order.now.n in
    let parts = c.args.parts.now in
    let p = length parts in
    let h = c.requires.blocks in
    let height = c.shape_of_blocks-height.result.0 in
    let width = c.shape_of_blocks-height.result.1 in
    let shape = c.shape_of_blocks-height.ensures.shape h.r h.c h.blocks.shapes in
    let positive = c.shape_of_blocks-height.ensures.positive in
    let across = c.len-across.result in
    let wide : across ≡ h.q = c.len-across.ensures ∙ c.index-parts-0.result.ok.0 ∙ joinable-width (λ v. v.items) parts (λ m. m.rows) (λ m. m.cols) (λ m. first_order order m.entries.items) n h 0 c.index-parts-0.result (read parts 0 c.index-parts-0.result (joinable-some (λ v. v.items) parts (λ m. m.rows) (λ m. m.cols) (λ m. first_order order m.entries.items) n h) c.index-parts-0.is) in
    let few : across * width < 2 ^ 32 = joinable-cols (λ v. v.items) parts (λ m. m.rows) (λ m. m.cols) (λ m. first_order order m.entries.items) n h across width wide shape.1 in omega (arith, few)

pub index-part-requires : goal.index-part-requires
index-part-requires g c =
    let value = g.S.Scalar.value in
    let order = g.S.Scalar.order_of in
    let n = c.args.order.now.n in
    let parts = c.args.parts.now in
    let p = length parts in
    let h = c.requires.blocks in
    let height = c.shape_of_blocks-height.result.0 in
    let width = c.shape_of_blocks-height.result.1 in
    let shape = c.shape_of_blocks-height.ensures.shape h.r h.c h.blocks.shapes in
    let positive = c.shape_of_blocks-height.ensures.positive in
    let across = c.len-across.result in
    let wide : across ≡ h.q = c.len-across.ensures ∙ c.index-parts-0.result.ok.0 ∙ joinable-width (λ v. v.items) parts (λ m. m.rows) (λ m. m.cols) (λ m. first_order order m.entries.items) n h 0 c.index-parts-0.result (read parts 0 c.index-parts-0.result (joinable-some (λ v. v.items) parts (λ m. m.rows) (λ m. m.cols) (λ m. first_order order m.entries.items) n h) c.index-parts-0.is) in
    let i = c.loop-i.i in
    let j = c.loop-j.j in
    let row : i < times p height = subst (λ k. i < k) (sym (times-mul p height)) c.loop-i-test.true in
    let col : j < times across width = subst (λ k. j < k) (sym (times-mul across width)) c.loop-j-test.true in
    let a = i / height in
    let b = j / width in
    let line = c.index-parts-i.result in
    let at_row = read parts a line (quotient-lt p height i positive.0 row) c.index-parts-i.is in
    let inside : b < length line.items = subst (λ k. b < k) (wide ∙ sym (joinable-width (λ v. v.items) parts (λ m. m.rows) (λ m. m.cols) (λ m. first_order order m.entries.items) n h a line at_row)) (quotient-lt across width j positive.1 col) in
    subst (λ k. b < k) (sym line.ok.0) inside

pub block_entry-requires-clause-row : goal.block_entry-requires-clause-row
block_entry-requires-clause-row g c =
    let value = g.S.Scalar.value in
    let order = g.S.Scalar.order_of in
    let n = c.args.order.now.n in
    let parts = c.args.parts.now in
    let p = length parts in
    let h = c.requires.blocks in
    let height = c.shape_of_blocks-height.result.0 in
    let width = c.shape_of_blocks-height.result.1 in
    let shape = c.shape_of_blocks-height.ensures.shape h.r h.c h.blocks.shapes in
    let positive = c.shape_of_blocks-height.ensures.positive in
    let across = c.len-across.result in
    let wide : across ≡ h.q = c.len-across.ensures ∙ c.index-parts-0.result.ok.0 ∙ joinable-width (λ v. v.items) parts (λ m. m.rows) (λ m. m.cols) (λ m. first_order order m.entries.items) n h 0 c.index-parts-0.result (read parts 0 c.index-parts-0.result (joinable-some (λ v. v.items) parts (λ m. m.rows) (λ m. m.cols) (λ m. first_order order m.entries.items) n h) c.index-parts-0.is) in
    let i = c.loop-i.i in
    let j = c.loop-j.j in
    let row : i < times p height = subst (λ k. i < k) (sym (times-mul p height)) c.loop-i-test.true in
    let col : j < times across width = subst (λ k. j < k) (sym (times-mul across width)) c.loop-j-test.true in
    let a = i / height in
    let b = j / width in
    let line = c.index-parts-i.result in
    let at_row = read parts a line (quotient-lt p height i positive.0 row) c.index-parts-i.is in
    let inside : b < length line.items = subst (λ k. b < k) (wide ∙ sym (joinable-width (λ v. v.items) parts (λ m. m.rows) (λ m. m.cols) (λ m. first_order order m.entries.items) n h a line at_row)) (quotient-lt across width j positive.1 col) in
    let part = c.index-part.result.now in
    let is : part_at (map (λ v. v.items) parts) a b ≡ part = part-is (λ v. v.items) parts a b line part at_row (read line.items b part inside c.index-part.ensures) in
    IfSome_then part (subst (λ o. IfSome o (λ m. (m.rows ≡ h.r) × (m.cols ≡ h.c))) is (h.blocks.shapes a b)) (λ m s. subst (λ v. i % height < v) (shape.0 ∙ sym s.0) (remainder-lt height i positive.0))

pub block_entry-requires-clause-column : goal.block_entry-requires-clause-column
block_entry-requires-clause-column g c =
    let value = g.S.Scalar.value in
    let order = g.S.Scalar.order_of in
    let n = c.args.order.now.n in
    let parts = c.args.parts.now in
    let p = length parts in
    let h = c.requires.blocks in
    let height = c.shape_of_blocks-height.result.0 in
    let width = c.shape_of_blocks-height.result.1 in
    let shape = c.shape_of_blocks-height.ensures.shape h.r h.c h.blocks.shapes in
    let positive = c.shape_of_blocks-height.ensures.positive in
    let across = c.len-across.result in
    let wide : across ≡ h.q = c.len-across.ensures ∙ c.index-parts-0.result.ok.0 ∙ joinable-width (λ v. v.items) parts (λ m. m.rows) (λ m. m.cols) (λ m. first_order order m.entries.items) n h 0 c.index-parts-0.result (read parts 0 c.index-parts-0.result (joinable-some (λ v. v.items) parts (λ m. m.rows) (λ m. m.cols) (λ m. first_order order m.entries.items) n h) c.index-parts-0.is) in
    let i = c.loop-i.i in
    let j = c.loop-j.j in
    let row : i < times p height = subst (λ k. i < k) (sym (times-mul p height)) c.loop-i-test.true in
    let col : j < times across width = subst (λ k. j < k) (sym (times-mul across width)) c.loop-j-test.true in
    let a = i / height in
    let b = j / width in
    let line = c.index-parts-i.result in
    let at_row = read parts a line (quotient-lt p height i positive.0 row) c.index-parts-i.is in
    let inside : b < length line.items = subst (λ k. b < k) (wide ∙ sym (joinable-width (λ v. v.items) parts (λ m. m.rows) (λ m. m.cols) (λ m. first_order order m.entries.items) n h a line at_row)) (quotient-lt across width j positive.1 col) in
    let part = c.index-part.result.now in
    let is : part_at (map (λ v. v.items) parts) a b ≡ part = part-is (λ v. v.items) parts a b line part at_row (read line.items b part inside c.index-part.ensures) in
    IfSome_then part (subst (λ o. IfSome o (λ m. (m.rows ≡ h.r) × (m.cols ≡ h.c))) is (h.blocks.shapes a b)) (λ m s. subst (λ v. j % width < v) (shape.1 ∙ sym s.1) (remainder-lt width j positive.1))

pub block_entry-requires-clause-order : goal.block_entry-requires-clause-order
block_entry-requires-clause-order g c =
    let value = g.S.Scalar.value in
    let order = g.S.Scalar.order_of in
    let n = c.args.order.now.n in
    let parts = c.args.parts.now in
    let p = length parts in
    let h = c.requires.blocks in
    let height = c.shape_of_blocks-height.result.0 in
    let width = c.shape_of_blocks-height.result.1 in
    let shape = c.shape_of_blocks-height.ensures.shape h.r h.c h.blocks.shapes in
    let positive = c.shape_of_blocks-height.ensures.positive in
    let across = c.len-across.result in
    let wide : across ≡ h.q = c.len-across.ensures ∙ c.index-parts-0.result.ok.0 ∙ joinable-width (λ v. v.items) parts (λ m. m.rows) (λ m. m.cols) (λ m. first_order order m.entries.items) n h 0 c.index-parts-0.result (read parts 0 c.index-parts-0.result (joinable-some (λ v. v.items) parts (λ m. m.rows) (λ m. m.cols) (λ m. first_order order m.entries.items) n h) c.index-parts-0.is) in
    let i = c.loop-i.i in
    let j = c.loop-j.j in
    let row : i < times p height = subst (λ k. i < k) (sym (times-mul p height)) c.loop-i-test.true in
    let col : j < times across width = subst (λ k. j < k) (sym (times-mul across width)) c.loop-j-test.true in
    let a = i / height in
    let b = j / width in
    let line = c.index-parts-i.result in
    let at_row = read parts a line (quotient-lt p height i positive.0 row) c.index-parts-i.is in
    let inside : b < length line.items = subst (λ k. b < k) (wide ∙ sym (joinable-width (λ v. v.items) parts (λ m. m.rows) (λ m. m.cols) (λ m. first_order order m.entries.items) n h a line at_row)) (quotient-lt across width j positive.1 col) in
    let part = c.index-part.result.now in
    let is : part_at (map (λ v. v.items) parts) a b ≡ part = part-is (λ v. v.items) parts a b line part at_row (read line.items b part inside c.index-part.ensures) in
    subst (λ o. IfSome o (λ m. first_order order m.entries.items ≡ n)) is (h.blocks.orders a b)

pub loop-j-preserved : goal.loop-j-preserved
loop-j-preserved g c =
    let value = g.S.Scalar.value in
    let order = g.S.Scalar.order_of in
    let n = c.args.order.now.n in
    let parts = c.args.parts.now in
    let p = length parts in
    let h = c.requires.blocks in
    let height = c.shape_of_blocks-height.result.0 in
    let width = c.shape_of_blocks-height.result.1 in
    let shape = c.shape_of_blocks-height.ensures.shape h.r h.c h.blocks.shapes in
    let positive = c.shape_of_blocks-height.ensures.positive in
    let across = c.len-across.result in
    let wide : across ≡ h.q = c.len-across.ensures ∙ c.index-parts-0.result.ok.0 ∙ joinable-width (λ v. v.items) parts (λ m. m.rows) (λ m. m.cols) (λ m. first_order order m.entries.items) n h 0 c.index-parts-0.result (read parts 0 c.index-parts-0.result (joinable-some (λ v. v.items) parts (λ m. m.rows) (λ m. m.cols) (λ m. first_order order m.entries.items) n h) c.index-parts-0.is) in
    let i = c.loop-i.i in
    let j = c.loop-j.j in
    let row : i < times p height = subst (λ k. i < k) (sym (times-mul p height)) c.loop-i-test.true in
    let col : j < times across width = subst (λ k. j < k) (sym (times-mul across width)) c.loop-j-test.true in
    let a = i / height in
    let b = j / width in
    let line = c.index-parts-i.result in
    let at_row = read parts a line (quotient-lt p height i positive.0 row) c.index-parts-i.is in
    let inside : b < length line.items = subst (λ k. b < k) (wide ∙ sym (joinable-width (λ v. v.items) parts (λ m. m.rows) (λ m. m.cols) (λ m. first_order order m.entries.items) n h a line at_row)) (quotient-lt across width j positive.1 col) in
    let part = c.index-part.result.now in
    let is : part_at (map (λ v. v.items) parts) a b ≡ part = part-is (λ v. v.items) parts a b line part at_row (read line.items b part inside c.index-part.ensures) in
    let joined = block_matrix p across height width (λ a b. block_of (λ part. matrix_of value n height width part.entries.items) (part_at (map (λ row. row.items) parts) (to_nat a) (to_nat b))) in
    let x = c.in_ok-entry.entry in
    let shaped = IfSome_then part (subst (λ o. IfSome o (λ m. (m.rows ≡ h.r) × (m.cols ≡ h.c))) is (h.blocks.shapes a b)) (λ m s. (s.0 ∙ sym shape.0, s.1 ∙ sym shape.1)) in
    filled-push order value n (times p height) (times across width) joined i j c.loop-j.entries.items c.push.new.self.items x c.loop-j.invariant c.in_ok-push.ensures.items col c.in_ok-entry.ensures.order
    (block-entry p across height width (λ a b. block_of (λ part. matrix_of value n height width part.entries.items) (part_at (map (λ row. row.items) parts) (to_nat a) (to_nat b))) i j (value n x) positive.0 positive.1
    (λ u v e f. subst (λ o. IsEntry (block_of (λ m. matrix_of value n height width m.entries.items) o) (i % height) (j % width) (value n x)) (sym (ap₂ (part_at (map (λ w. w.items) parts)) e f ∙ is)) (c.in_ok-entry.ensures.entry height width shaped)))

pub loop-i-preserved : goal.loop-i-preserved
loop-i-preserved g c =
    let value = g.S.Scalar.value in
    let order = g.S.Scalar.order_of in
    let n = c.args.order.now.n in
    let parts = c.args.parts.now in
    let p = length parts in
    let h = c.requires.blocks in
    let height = c.shape_of_blocks-height.result.0 in
    let width = c.shape_of_blocks-height.result.1 in
    let shape = c.shape_of_blocks-height.ensures.shape h.r h.c h.blocks.shapes in
    let positive = c.shape_of_blocks-height.ensures.positive in
    let across = c.len-across.result in
    let wide : across ≡ h.q = c.len-across.ensures ∙ c.index-parts-0.result.ok.0 ∙ joinable-width (λ v. v.items) parts (λ m. m.rows) (λ m. m.cols) (λ m. first_order order m.entries.items) n h 0 c.index-parts-0.result (read parts 0 c.index-parts-0.result (joinable-some (λ v. v.items) parts (λ m. m.rows) (λ m. m.cols) (λ m. first_order order m.entries.items) n h) c.index-parts-0.is) in
    let joined = block_matrix p across height width (λ a b. block_of (λ part. matrix_of value n height width part.entries.items) (part_at (map (λ row. row.items) parts) (to_nat a) (to_nat b))) in
    let full : c.loop-j.j ≡ across * width = omega arith in
    filled-next order value n (times p height) (times across width) joined c.loop-i.i c.loop-j.j c.loop-j.entries.items c.loop-j.invariant (full ∙ sym (times-mul across width))

pub invariant_of-result : goal.invariant_of-result
invariant_of-result g c =
    let value = g.S.Scalar.value in
    let order = g.S.Scalar.order_of in
    let n = c.args.order.now.n in
    let parts = c.args.parts.now in
    let p = length parts in
    let h = c.requires.blocks in
    let height = c.shape_of_blocks-height.result.0 in
    let width = c.shape_of_blocks-height.result.1 in
    let shape = c.shape_of_blocks-height.ensures.shape h.r h.c h.blocks.shapes in
    let positive = c.shape_of_blocks-height.ensures.positive in
    let across = c.len-across.result in
    let wide : across ≡ h.q = c.len-across.ensures ∙ c.index-parts-0.result.ok.0 ∙ joinable-width (λ v. v.items) parts (λ m. m.rows) (λ m. m.cols) (λ m. first_order order m.entries.items) n h 0 c.index-parts-0.result (read parts 0 c.index-parts-0.result (joinable-some (λ v. v.items) parts (λ m. m.rows) (λ m. m.cols) (λ m. first_order order m.entries.items) n h) c.index-parts-0.is) in
    let joined = block_matrix p across height width (λ a b. block_of (λ part. matrix_of value n height width part.entries.items) (part_at (map (λ row. row.items) parts) (to_nat a) (to_nat b))) in
    let full = filled-done order value n (times p height) (times across width) joined c.loop-i.i c.loop-i.entries.items c.loop-i.invariant
    (subst (λ w. w ≤ c.loop-i.i) (sym (times-mul p height)) c.loop-i-test.false) (subst (λ w. c.loop-i.i ≤ w) (sym (times-mul p height)) c.loop-i.auto.i-end) in
    let some : 0 < across = subst (λ v. 0 < v) (sym wide) (joinable-blocks (λ v. v.items) parts (λ m. m.rows) (λ m. m.cols) (λ m. first_order order m.entries.items) n h) in
    let some_rows : 0 < p * height = Nat.mul-pos (joinable-some (λ v. v.items) parts (λ m. m.rows) (λ m. m.cols) (λ m. first_order order m.entries.items) n h) positive.0 in
    let some_cols : 0 < across * width = Nat.mul-pos some positive.1 in
    let orders = filled-orders order value n (times p height) (times across width) joined c.loop-i.entries.items full
    (subst (λ w. 0 < w) (sym (times-mul p height)) some_rows) (subst (λ w. 0 < w) (sym (times-mul across width)) some_cols) in
    record {
      some_rows = some_rows;
      some_cols = some_cols;
      filled = full.count ∙ ap₂ (λ u v. u * v) (times-mul p height) (times-mul across width);
      one_order = orders.1;
    }

pub returns-clause-rows : goal.returns-clause-rows
returns-clause-rows g c =
    let value = g.S.Scalar.value in
    let order = g.S.Scalar.order_of in
    let n = c.args.order.now.n in
    let parts = c.args.parts.now in
    let p = length parts in
    let h = c.requires.blocks in
    let height = c.shape_of_blocks-height.result.0 in
    let width = c.shape_of_blocks-height.result.1 in
    let shape = c.shape_of_blocks-height.ensures.shape h.r h.c h.blocks.shapes in
    let positive = c.shape_of_blocks-height.ensures.positive in
    let across = c.len-across.result in
    let wide : across ≡ h.q = c.len-across.ensures ∙ c.index-parts-0.result.ok.0 ∙ joinable-width (λ v. v.items) parts (λ m. m.rows) (λ m. m.cols) (λ m. first_order order m.entries.items) n h 0 c.index-parts-0.result (read parts 0 c.index-parts-0.result (joinable-some (λ v. v.items) parts (λ m. m.rows) (λ m. m.cols) (λ m. first_order order m.entries.items) n h) c.index-parts-0.is) in
    let joined = block_matrix p across height width (λ a b. block_of (λ part. matrix_of value n height width part.entries.items) (part_at (map (λ row. row.items) parts) (to_nat a) (to_nat b))) in
    let full = filled-done order value n (times p height) (times across width) joined c.loop-i.i c.loop-i.entries.items c.loop-i.invariant
    (subst (λ w. w ≤ c.loop-i.i) (sym (times-mul p height)) c.loop-i-test.false) (subst (λ w. c.loop-i.i ≤ w) (sym (times-mul p height)) c.loop-i.auto.i-end) in
    let some : 0 < across = subst (λ v. 0 < v) (sym wide) (joinable-blocks (λ v. v.items) parts (λ m. m.rows) (λ m. m.cols) (λ m. first_order order m.entries.items) n h) in
    let some_rows : 0 < p * height = Nat.mul-pos (joinable-some (λ v. v.items) parts (λ m. m.rows) (λ m. m.cols) (λ m. first_order order m.entries.items) n h) positive.0 in
    let some_cols : 0 < across * width = Nat.mul-pos some positive.1 in
    let orders = filled-orders order value n (times p height) (times across width) joined c.loop-i.entries.items full
    (subst (λ w. 0 < w) (sym (times-mul p height)) some_rows) (subst (λ w. 0 < w) (sym (times-mul across width)) some_cols) in
    λ r k q s.
    let same = c.shape_of_blocks-height.ensures.shape r k s.shapes in
    let equal : across ≡ q = c.len-across.ensures ∙ c.index-parts-0.result.ok.0 ∙ width-at (λ v. v.items) parts 0 q c.index-parts-0.result s.widths (read parts 0 c.index-parts-0.result (joinable-some (λ v. v.items) parts (λ m. m.rows) (λ m. m.cols) (λ m. first_order order m.entries.items) n h) c.index-parts-0.is) in
    ap (λ v. p * v) same.0

pub returns-clause-cols : goal.returns-clause-cols
returns-clause-cols g c =
    let value = g.S.Scalar.value in
    let order = g.S.Scalar.order_of in
    let n = c.args.order.now.n in
    let parts = c.args.parts.now in
    let p = length parts in
    let h = c.requires.blocks in
    let height = c.shape_of_blocks-height.result.0 in
    let width = c.shape_of_blocks-height.result.1 in
    let shape = c.shape_of_blocks-height.ensures.shape h.r h.c h.blocks.shapes in
    let positive = c.shape_of_blocks-height.ensures.positive in
    let across = c.len-across.result in
    let wide : across ≡ h.q = c.len-across.ensures ∙ c.index-parts-0.result.ok.0 ∙ joinable-width (λ v. v.items) parts (λ m. m.rows) (λ m. m.cols) (λ m. first_order order m.entries.items) n h 0 c.index-parts-0.result (read parts 0 c.index-parts-0.result (joinable-some (λ v. v.items) parts (λ m. m.rows) (λ m. m.cols) (λ m. first_order order m.entries.items) n h) c.index-parts-0.is) in
    let joined = block_matrix p across height width (λ a b. block_of (λ part. matrix_of value n height width part.entries.items) (part_at (map (λ row. row.items) parts) (to_nat a) (to_nat b))) in
    let full = filled-done order value n (times p height) (times across width) joined c.loop-i.i c.loop-i.entries.items c.loop-i.invariant
    (subst (λ w. w ≤ c.loop-i.i) (sym (times-mul p height)) c.loop-i-test.false) (subst (λ w. c.loop-i.i ≤ w) (sym (times-mul p height)) c.loop-i.auto.i-end) in
    let some : 0 < across = subst (λ v. 0 < v) (sym wide) (joinable-blocks (λ v. v.items) parts (λ m. m.rows) (λ m. m.cols) (λ m. first_order order m.entries.items) n h) in
    let some_rows : 0 < p * height = Nat.mul-pos (joinable-some (λ v. v.items) parts (λ m. m.rows) (λ m. m.cols) (λ m. first_order order m.entries.items) n h) positive.0 in
    let some_cols : 0 < across * width = Nat.mul-pos some positive.1 in
    let orders = filled-orders order value n (times p height) (times across width) joined c.loop-i.entries.items full
    (subst (λ w. 0 < w) (sym (times-mul p height)) some_rows) (subst (λ w. 0 < w) (sym (times-mul across width)) some_cols) in
    λ r k q s.
    let same = c.shape_of_blocks-height.ensures.shape r k s.shapes in
    let equal : across ≡ q = c.len-across.ensures ∙ c.index-parts-0.result.ok.0 ∙ width-at (λ v. v.items) parts 0 q c.index-parts-0.result s.widths (read parts 0 c.index-parts-0.result (joinable-some (λ v. v.items) parts (λ m. m.rows) (λ m. m.cols) (λ m. first_order order m.entries.items) n h) c.index-parts-0.is) in
    ap₂ (λ u v. u * v) equal same.1

pub returns-clause-order : goal.returns-clause-order
returns-clause-order g c =
    let value = g.S.Scalar.value in
    let order = g.S.Scalar.order_of in
    let n = c.args.order.now.n in
    let parts = c.args.parts.now in
    let p = length parts in
    let h = c.requires.blocks in
    let height = c.shape_of_blocks-height.result.0 in
    let width = c.shape_of_blocks-height.result.1 in
    let shape = c.shape_of_blocks-height.ensures.shape h.r h.c h.blocks.shapes in
    let positive = c.shape_of_blocks-height.ensures.positive in
    let across = c.len-across.result in
    let wide : across ≡ h.q = c.len-across.ensures ∙ c.index-parts-0.result.ok.0 ∙ joinable-width (λ v. v.items) parts (λ m. m.rows) (λ m. m.cols) (λ m. first_order order m.entries.items) n h 0 c.index-parts-0.result (read parts 0 c.index-parts-0.result (joinable-some (λ v. v.items) parts (λ m. m.rows) (λ m. m.cols) (λ m. first_order order m.entries.items) n h) c.index-parts-0.is) in
    let joined = block_matrix p across height width (λ a b. block_of (λ part. matrix_of value n height width part.entries.items) (part_at (map (λ row. row.items) parts) (to_nat a) (to_nat b))) in
    let full = filled-done order value n (times p height) (times across width) joined c.loop-i.i c.loop-i.entries.items c.loop-i.invariant
    (subst (λ w. w ≤ c.loop-i.i) (sym (times-mul p height)) c.loop-i-test.false) (subst (λ w. c.loop-i.i ≤ w) (sym (times-mul p height)) c.loop-i.auto.i-end) in
    let some : 0 < across = subst (λ v. 0 < v) (sym wide) (joinable-blocks (λ v. v.items) parts (λ m. m.rows) (λ m. m.cols) (λ m. first_order order m.entries.items) n h) in
    let some_rows : 0 < p * height = Nat.mul-pos (joinable-some (λ v. v.items) parts (λ m. m.rows) (λ m. m.cols) (λ m. first_order order m.entries.items) n h) positive.0 in
    let some_cols : 0 < across * width = Nat.mul-pos some positive.1 in
    let orders = filled-orders order value n (times p height) (times across width) joined c.loop-i.entries.items full
    (subst (λ w. 0 < w) (sym (times-mul p height)) some_rows) (subst (λ w. 0 < w) (sym (times-mul across width)) some_cols) in
    orders.0

pub returns-clause-value : goal.returns-clause-value
returns-clause-value g c =
    let value = g.S.Scalar.value in
    let order = g.S.Scalar.order_of in
    let n = c.args.order.now.n in
    let parts = c.args.parts.now in
    let p = length parts in
    let h = c.requires.blocks in
    let height = c.shape_of_blocks-height.result.0 in
    let width = c.shape_of_blocks-height.result.1 in
    let shape = c.shape_of_blocks-height.ensures.shape h.r h.c h.blocks.shapes in
    let positive = c.shape_of_blocks-height.ensures.positive in
    let across = c.len-across.result in
    let wide : across ≡ h.q = c.len-across.ensures ∙ c.index-parts-0.result.ok.0 ∙ joinable-width (λ v. v.items) parts (λ m. m.rows) (λ m. m.cols) (λ m. first_order order m.entries.items) n h 0 c.index-parts-0.result (read parts 0 c.index-parts-0.result (joinable-some (λ v. v.items) parts (λ m. m.rows) (λ m. m.cols) (λ m. first_order order m.entries.items) n h) c.index-parts-0.is) in
    let joined = block_matrix p across height width (λ a b. block_of (λ part. matrix_of value n height width part.entries.items) (part_at (map (λ row. row.items) parts) (to_nat a) (to_nat b))) in
    let full = filled-done order value n (times p height) (times across width) joined c.loop-i.i c.loop-i.entries.items c.loop-i.invariant
    (subst (λ w. w ≤ c.loop-i.i) (sym (times-mul p height)) c.loop-i-test.false) (subst (λ w. c.loop-i.i ≤ w) (sym (times-mul p height)) c.loop-i.auto.i-end) in
    let some : 0 < across = subst (λ v. 0 < v) (sym wide) (joinable-blocks (λ v. v.items) parts (λ m. m.rows) (λ m. m.cols) (λ m. first_order order m.entries.items) n h) in
    let some_rows : 0 < p * height = Nat.mul-pos (joinable-some (λ v. v.items) parts (λ m. m.rows) (λ m. m.cols) (λ m. first_order order m.entries.items) n h) positive.0 in
    let some_cols : 0 < across * width = Nat.mul-pos some positive.1 in
    let orders = filled-orders order value n (times p height) (times across width) joined c.loop-i.entries.items full
    (subst (λ w. 0 < w) (sym (times-mul p height)) some_rows) (subst (λ w. 0 < w) (sym (times-mul across width)) some_cols) in
    λ r k q s.
    let same = c.shape_of_blocks-height.ensures.shape r k s.shapes in
    let equal : across ≡ q = c.len-across.ensures ∙ c.index-parts-0.result.ok.0 ∙ width-at (λ v. v.items) parts 0 q c.index-parts-0.result s.widths (read parts 0 c.index-parts-0.result (joinable-some (λ v. v.items) parts (λ m. m.rows) (λ m. m.cols) (λ m. first_order order m.entries.items) n h) c.index-parts-0.is) in
    let ys = c.loop-i.entries.items in
    subst (λ w. matrix_of value n (times p r) (times w k) ys ≡ block_matrix p w r k (λ a b. block_of (λ part. matrix_of value n r k part.entries.items) (part_at (map (λ row. row.items) parts) (to_nat a) (to_nat b)))) equal
    (subst (λ w. matrix_of value n (times p r) (times across w) ys ≡ block_matrix p across r w (λ a b. block_of (λ part. matrix_of value n r w part.entries.items) (part_at (map (λ row. row.items) parts) (to_nat a) (to_nat b)))) same.1
    (subst (λ w. matrix_of value n (times p w) (times across width) ys ≡ block_matrix p across w width (λ a b. block_of (λ part. matrix_of value n w width part.entries.items) (part_at (map (λ row. row.items) parts) (to_nat a) (to_nat b)))) same.0
    (filled-matrix order value n (times p height) (times across width) joined ys full)))
