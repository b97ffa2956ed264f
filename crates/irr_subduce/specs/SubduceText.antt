-- The text of restrictions to a subgroup.
--   SubduceContent              what stands in it: an order, a wave vector, and the entries of labels
--   part_line, rep_lines        the line of a part, the lines of an entry
--   subduce_text n s c          the text in version n, with the sign s of the phase
--   IsSubduceContent .. k c     the restrictions of the full representations at k
use Rattle.std.specs.Prelude.{ℕ, ◌≡◌, List, ◌∷◌, ◌++◌, codes}
use Rattle.std.specs.List.{flat_map}
use Rattle.std.specs.Fmt.{decimal}
use Rattle.irr_space.specs.Operation.{Operation, WaveVector}
use Rattle.irr_space.specs.Reciprocal.{Sign, IsOrder, IsReduced}
use Rattle.irr_text.specs.WaveText.{wave_text}
use Rattle.irr_text.specs.ReportText.{line, next_word}
use Rattle.irr_heading.specs.Heading.{heading}
use Rattle.irr_full.specs.Parts.{Part}
use Rattle.irr_subduce.specs.Restrictions.{AreRestrictions, RepContent}

pub record SubduceContent : Type 0 where
  pub order : ℕ
  pub wave : WaveVector
  pub reps : List RepContent

-- labels are printed behind an S
abbrev pub label_word : ℕ → List ℕ
label_word n = next_word (83 ∷ decimal n)

abbrev pub part_line : Part → List ℕ
part_line p = line (codes "part" ++ next_word (wave_text p.wave) ++ label_word p.label ++ next_word (decimal p.mult)
    ++ next_word (decimal p.dim))

abbrev pub rep_lines : RepContent → List ℕ
rep_lines r = line (codes "rep" ++ label_word r.label ++ next_word (codes "dim") ++ next_word (decimal r.dim))
    ++ flat_map part_line r.parts

abbrev pub subduce_text : ℕ → Sign → SubduceContent → List ℕ
subduce_text n s c = heading (codes "subduce") n s
    ++ line (codes "order" ++ next_word (decimal c.order))
    ++ line (codes "wave" ++ next_word (wave_text c.wave))
    ++ flat_map rep_lines c.reps
    ++ line (codes "end")

pub record IsSubduceContent (s : Sign) (G H : Operation → Type 0) (image : Operation → Operation) (k : WaveVector)
    (c : SubduceContent) : Type 0 where
  pub wave : IsReduced G k c.wave
  pub is_order : IsOrder G c.wave c.order
  pub restrictions : AreRestrictions s G H image c.wave c.order c.reps
