-- `real`: the types of the full representations at a wave vector (Bradley and Cracknell, sections 4.6 and 7.6).
--   RealContent               what stands in the text: a wave vector, an order, and for each full representation the
--                             number of its rows and its type
--   real_text c               its text
--   real_content              the content of a star and of a list of small representations with these types
--   IsRealContent s G k c     the types at k of the group G, for the sign s of the phase: those of the full
--                             representations that the members of a complete list in canonical order induce, over the
--                             order of k and over every multiple of it
--   IsRealText s G k text     the text is that of the types at k
--   IsRealReply G k s text    s is Done, and the text is that of the types, for the sign minus
use Rattle.std.specs.Prelude.{ℕ, ℤ, ◌≡◌, List, ◌∷◌, ◌++◌, codes}
use Rattle.std.specs.Int.{◌∣◌}
use Rattle.std.specs.Fmt.{decimal, signed_decimal}
use Rattle.irr_algebra.specs.Fin.{Fin}
use Rattle.irr_algebra.specs.Matrix.{Matrix}
use Rattle.irr_algebra.specs.Pair.{times}
use Rattle.irr_number.specs.Number.{numbers}
use Rattle.irr_theory.specs.Representations.{Representations}
use Rattle.irr_space.specs.Operation.{Operation, WaveVector}
use Rattle.irr_space.specs.Reciprocal.{Sign, IsReduced}
use Rattle.irr_space.specs.Reciprocal.Sign.{minus}
use Rattle.irr_space.specs.PhaseTable.{phases_at}
use Rattle.irr_space.specs.CompleteList.{IsCompleteList, IsInOrder, over}
use Rattle.irr_text.specs.WaveText.{wave_text}
use Rattle.irr_text.specs.ReportText.{pieces, line, place_text, next_word}
use Rattle.irr_full.specs.Star.{Star}
use Rattle.irr_full.specs.Full.{IsFullOf}
use Rattle.irr_real.specs.Answer.{IsTypeOf, IsTypeOverEach}
use Rattle.irr_top.specs.declared.status.Status.{Status}
use Rattle.irr_top.specs.declared.status.Status.TheVariants.{Done}

pub record RealContent : Type 0 where
  pub wave : WaveVector
  pub order : ℕ
  pub count : ℕ
  pub size : Fin count → ℕ
  -- 1, -1 or 0
  pub form_type : Fin count → ℤ

unfoldable pub type_line : (c : RealContent) → Fin c.count → List ℕ
type_line c m = line (codes "rep" ++ next_word (83 ∷ place_text m)
    ++ next_word (codes "dim") ++ next_word (decimal (c.size m))
    ++ next_word (codes "type") ++ next_word (signed_decimal (c.form_type m)))

unfoldable pub real_text : RealContent → List ℕ
real_text c = line (codes "real 1")
    ++ line (codes "wave" ++ next_word (wave_text c.wave))
    ++ line (codes "order" ++ next_word (decimal c.order))
    ++ line (codes "reps" ++ next_word (decimal c.count))
    ++ pieces c.count (λ m. type_line c m)
    ++ line (codes "end")

abbrev pub real_content : {s : Sign} {G : Operation → Type 0} (k : WaveVector) (S : Star s G k)
    (L : Representations (phases_at S.table)) → (Fin L.count → ℤ) → RealContent
real_content k S L types = record {
  wave = k;
  order = S.table.order;
  count = L.count;
  size = λ m. times S.arms (L.size m);
  form_type = types;
}

pub record IsRealContent (s : Sign) (G : Operation → Type 0) (k : WaveVector) (c : RealContent) : Type 0 where
  pub wave : WaveVector
  pub reduced : IsReduced G k wave
  pub star : Star s G wave
  pub list : Representations (phases_at star.table)
  pub complete : IsCompleteList star.table list
  pub in_order : IsInOrder star.table list
  -- the full representations
  pub full : (m : Fin list.count) → Operation → Matrix (numbers star.table.order) (times star.arms (list.size m))
      (times star.arms (list.size m))
  pub is_full : (v : star.table.order ∣ star.table.order) (m : Fin list.count) → IsFullOf star star.table.order v
      (over star.table star.table.order v (list.member m)) (full m)
  -- their types
  pub types : Fin list.count → ℤ
  pub is_type : (v : star.table.order ∣ star.table.order) (m : Fin list.count) → IsTypeOf star star.table.order v
      (over star.table star.table.order v (list.member m)) (types m)
  pub over_each : (v : star.table.order ∣ star.table.order) (m : Fin list.count)
      → IsTypeOverEach star star.table.order v (list.member m) (types m)
  pub content : c ≡ real_content wave star list types

pub record IsRealText (s : Sign) (G : Operation → Type 0) (k : WaveVector) (text : List ℕ) : Type 0 where
  pub content : RealContent
  pub is_content : IsRealContent s G k content
  pub is_text : text ≡ real_text content

abbrev pub IsRealReply : (Operation → Type 0) → WaveVector → Status → List ℕ → Type 0
IsRealReply G k s text = (s ≡ Done) × IsRealText minus G k text
