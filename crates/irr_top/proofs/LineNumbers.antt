-- The number of lines of bytes.
--   line_count_once     bytes have one number of lines
--   lines_within        which is not above a limit on bytes
use Rattle.std.proofs.Common.{◌≡◌, sym, ◌∙◌, ap, ℕ, ◌≤◌, List, length, arith}
use Rattle.irr_lines.proofs.AllLines.{lines_unique}
use Rattle.irr_input.specs.InputLines.{HasLines}
use Rattle.irr_input.proofs.LineCounts.{few_lines}

pub line_count_once : (bytes : List ℕ) (m n : ℕ) → HasLines bytes m → HasLines bytes n → m ≡ n
line_count_once bytes m n h g = h.count ∙ ap length (lines_unique h.are_lines g.are_lines) ∙ sym g.count

pub lines_within : (bytes : List ℕ) (n limit : ℕ) → HasLines bytes n → length bytes ≤ limit → n ≤ limit
lines_within bytes n limit h l = let a : length h.lines ≤ length bytes = few_lines h.are_lines in
    let e : n ≡ length h.lines = h.count in omega (arith, a, e, l)
