-- The parts of a printed report.
--   listed n f         the list f 0, .., f (n - 1)
--   written_of r       what stands in the text of the report r, part by part
use Rattle.std.specs.Prelude.{ℕ, zero, suc, List, [], ◌∷◌}
use Rattle.std.specs.List.{flat_map}
use Rattle.std.specs.Fmt.{decimal}
use Rattle.irr_algebra.specs.Fin.{Fin}
use Rattle.irr_algebra.specs.Fin.Fin.{first, next}
use Rattle.irr_text.specs.NumberText.{number_text}
use Rattle.irr_text.specs.WaveText.{wave_text}
use Rattle.irr_text.specs.TripletText.{triplet_text}
use Rattle.irr_text.specs.ReportText.{ReportContent}
use Rattle.irr_report.specs.ReportLines.{WrittenReport, WrittenRepresentation}

unfoldable pub listed : {A : Type 0} (n : ℕ) → (Fin n → A) → List A
listed zero f = []
listed (suc n) f = f first ∷ listed n (λ i. f (next i))

-- the entries of a matrix, row by row
abbrev pub entry_texts : (r : ReportContent) → Fin r.count → Fin r.places → List (List ℕ)
entry_texts r m i = flat_map (λ row. row) (listed (r.size m) (λ a. listed (r.size m) (λ b. number_text r.order ((r.matrix m i).at a b))))

abbrev pub representation_of : (r : ReportContent) → Fin r.count → WrittenRepresentation
representation_of r m = record {
  dimension = decimal (r.size m);
  characters = listed r.places (λ i. number_text r.order (r.character m i));
  matrices = listed r.places (entry_texts r m);
}

abbrev pub written_of : ReportContent → WrittenReport
written_of r = record {
  wave = wave_text r.wave;
  order = decimal r.order;
  places = decimal r.places;
  triplets = listed r.places (λ i. triplet_text (r.operation i));
  count = decimal r.count;
  representations = listed r.count (representation_of r);
}
