-- Requests with what they need of an input.
--   asked_by task      the question that the task asks
--   IsLimited task     its point, its wave vectors, its section or its report are within the limits of the calls that take them
use Rattle.std.specs.Prelude.{IfSome, map}
use Rattle.irr_rat.specs.VectorMeaning.{vector}
use Rattle.irr_kvec.specs.Centrings.{IsWithinLimits}
use Rattle.irr_kvec.specs.WaveMeaning.{wave_vector}
use Rattle.irr_input.specs.PointText.{IsSmallPoint}
use Rattle.irr_input.specs.InputLines.{content_of_sub}
use Rattle.irr_report.specs.Content.{content_of}
use Rattle.irr_report.specs.Limits.{IsWithinLimits as IsLimitedReport}
use Rattle.irr_top.specs.CompatCommand.{other_points}
use Rattle.irr_top.specs.Sections.{IsLimitedSection}
use Rattle.irr_top.specs.Question.{Question}
use Rattle.irr_top.specs.Question.Question.{star, small, full, product, subduce, compat, real, square, tensor, site, check, summary}
use Rattle.irr_top.specs.declared.task.Task.{Task}
use Rattle.irr_top.specs.declared.task.Task.TheVariants.{Star, Small, Full, Product, Subduce, Compat, Real, Square, Tensor, Site, Check, Summary}

abbrev pub asked_by : Task → Question
asked_by (Star k) = star (wave_vector k)
asked_by (Small k) = small (wave_vector k)
asked_by (Full k) = full (wave_vector k)
asked_by (Product k l) = product (wave_vector k) (wave_vector l)
asked_by (Subduce k s) = subduce (wave_vector k) (content_of_sub s)
asked_by (Compat k l m) = compat (wave_vector k) (map wave_vector (other_points l m))
asked_by (Real k) = real (wave_vector k)
asked_by (Square k) = square (wave_vector k)
asked_by (Tensor f) = tensor f
asked_by (Site x k) = site (vector x) (wave_vector k)
asked_by (Check r) = check (content_of r)
asked_by (Summary number lines k) = summary number lines (wave_vector k)

abbrev pub IsLimited : Task → Type 0
IsLimited (Star k) = IsWithinLimits k
IsLimited (Small k) = IsWithinLimits k
IsLimited (Full k) = IsWithinLimits k
IsLimited (Product k l) = IsWithinLimits k × IsWithinLimits l
IsLimited (Subduce k s) = IsWithinLimits k × IsLimitedSection s
IsLimited (Compat k l m) = IsWithinLimits k × IsWithinLimits l × IfSome m IsWithinLimits
IsLimited (Real k) = IsWithinLimits k
IsLimited (Square k) = IsWithinLimits k
IsLimited (Tensor f) = Unit {0}
IsLimited (Site x k) = IsSmallPoint x × IsWithinLimits k
IsLimited (Check r) = IsLimitedReport r
IsLimited (Summary number lines k) = IsWithinLimits k
