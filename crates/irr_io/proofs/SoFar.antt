-- What the loops that write or read everything have done so far, and one more step of each.
--   Grows-trans                one piece held after another
--   LosesFront-trans           one piece taken after another
--   NeverFalls-trans           a count over two steps
--   CountsAtMost-more          a count after one more
--   WrittenSoFar               the first so many bytes are written
--   WrittenSoFar-more          and the next write
--   FilledSoFar                the first so many bytes of a buffer were read
--   FilledSoFar-more           and the next read
use Rattle.std.proofs.Common.{◌≡◌, ℕ, ◌+◌, ◌-◌, ◌<◌, ◌≤◌, ◌++◌, min, List, length, take, drop, ap, sym, subst, ◌∙◌, append_assoc, arith, length-drop}
use Rattle.std.proofs.Math.Seq.{take-add}
use Rattle.std.specs.Prelude.{Option, None, Some}
use Rattle.irr_io.specs.Count.{NeverFalls, CountsOne, CountsAtMost}
use Rattle.irr_io.specs.Told.{Grows, LosesFront}
use Rattle.irr_io.specs.Views.{SourceView, SinkView, Gains, Takes}

-- the bytes gained one piece and then another
pub Grows-trans : (a b c : Option (List ℕ)) (first second : List ℕ) → Grows a b first → Grows b c second
    → Grows a c (first ++ second)
Grows-trans None None None first second p q = p
Grows-trans None None (Some z) first second p q = q
Grows-trans None (Some y) c first second p q = absurd p
Grows-trans (Some x) None c first second p q = absurd p
Grows-trans (Some x) (Some y) None first second p q = absurd q
Grows-trans (Some x) (Some y) (Some z) first second p q = q ∙ ap (λ l. l ++ second) p ∙ append_assoc x first second

-- the bytes lost one piece and then another
pub LosesFront-trans : (a b c : Option (List ℕ)) (first second : List ℕ) → LosesFront a b first → LosesFront b c second
    → LosesFront a c (first ++ second)
LosesFront-trans None None None first second p q = p
LosesFront-trans None None (Some z) first second p q = q
LosesFront-trans None (Some y) c first second p q = absurd p
LosesFront-trans (Some x) None c first second p q = absurd p
LosesFront-trans (Some x) (Some y) None first second p q = absurd q
LosesFront-trans (Some x) (Some y) (Some z) first second p q = p ∙ ap (λ l. first ++ l) q ∙ sym (append_assoc first second z)

-- a count that never fell, over two steps
pub NeverFalls-trans : (a b c : ℕ) → NeverFalls a b → NeverFalls b c → NeverFalls a c
NeverFalls-trans a b c p q = (omega (arith, p.0, q.0), λ h. q.1 (p.1 h))

-- a count of at most n after one more
pub CountsAtMost-more : (n m : ℕ) (a b c : Option ℕ) → n + 1 ≤ m → CountsAtMost n a b → CountsOne b c
    → CountsAtMost m a c
CountsAtMost-more n m None None None h p q = p
CountsAtMost-more n m None None (Some z) h p q = q
CountsAtMost-more n m None (Some y) c h p q = absurd p
CountsAtMost-more n m (Some x) None c h p q = absurd p
CountsAtMost-more n m (Some x) (Some y) None h p q = absurd q
CountsAtMost-more n m (Some x) (Some y) (Some z) h p q = omega (arith, h, p, q)

-- the first `done` of the bytes are written
pub record WrittenSoFar (before after : SinkView) (bytes : List ℕ) (done : ℕ) : Type 0 where
  pub within : done ≤ length bytes
  pub gained : Gains before after (take done bytes)
  pub never_falls : NeverFalls before.faults after.faults
  pub counted : CountsAtMost done before.writes after.writes

-- and after one more write, of the piece that stands behind them, which took n bytes
pub WrittenSoFar-more : {before after next : SinkView} {bytes : List ℕ} {done : ℕ} (piece : List ℕ) (n : ℕ)
    → WrittenSoFar before after bytes done → done < length bytes → piece ≡ drop done bytes → n ≤ length piece
    → (0 < length piece → 0 < n)
    → Gains after next (take n piece) → NeverFalls after.faults next.faults → CountsOne after.writes next.writes
    → WrittenSoFar before next bytes (done + n)
WrittenSoFar-more {before} {after} {next} {bytes} {done} piece n so_far below rest fits progress gained never_falls counted =
    let long : length piece ≡ length bytes - done = ap length rest ∙ length-drop done bytes in
    let some : 0 < n = progress (omega (arith, below, long)) in
    let both = Grows-trans before.held after.held next.held (take done bytes) (take n piece) so_far.gained gained in
    let joined : take done bytes ++ take n piece ≡ take (done + n) bytes = ap (λ l. take done bytes ++ take n l) rest ∙ sym (take-add done n bytes) in
    record {
      within = omega (arith, so_far.within, fits, long);
      gained = subst (Grows before.held next.held) joined both;
      never_falls = NeverFalls-trans before.faults after.faults next.faults so_far.never_falls never_falls;
      counted = CountsAtMost-more done (done + n) before.writes after.writes next.writes (omega (arith, some)) so_far.counted counted;
    }

-- the first `filled` bytes of the buffer were read, by reads of which none was past the limit
pub record FilledSoFar (before after : SourceView) (buffer : List ℕ) (filled limit : ℕ) : Type 0 where
  pub within : filled ≤ length buffer
  pub taken : Takes before after (take filled buffer)
  pub never_falls : NeverFalls before.faults after.faults
  pub counted : CountsAtMost (min filled (limit + 1)) before.reads after.reads

-- and after one more read, which put n bytes behind them
pub FilledSoFar-more : {before after next : SourceView} {buffer : List ℕ} {filled limit : ℕ} (buffer' : List ℕ) (n : ℕ)
    → FilledSoFar before after buffer filled limit → filled ≤ limit → take filled buffer' ≡ take filled buffer
    → filled + n ≤ length buffer' → (n ≡ 0 → ⊥)
    → Takes after next (take n (drop filled buffer')) → NeverFalls after.faults next.faults
    → CountsOne after.reads next.reads
    → FilledSoFar before next buffer' (filled + n) limit
FilledSoFar-more {before} {after} {next} {buffer} {filled} {limit} buffer' n so_far below front fits progress taken never_falls counted =
    let both = LosesFront-trans before.left after.left next.left (take filled buffer) (take n (drop filled buffer')) so_far.taken taken in
    record {
      within = fits;
      taken = subst (LosesFront before.left next.left) (sym (take-add filled n buffer' ∙ ap (λ l. l ++ take n (drop filled buffer')) front)) both;
      never_falls = NeverFalls-trans before.faults after.faults next.faults so_far.never_falls never_falls;
      counted = CountsAtMost-more (min filled (limit + 1)) (min (filled + n) (limit + 1)) before.reads after.reads next.reads
          (omega (arith, progress, below)) so_far.counted counted;
    }
