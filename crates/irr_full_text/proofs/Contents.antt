-- The text of the content, from the lines of the program.
--   first_arms              the arms are some, and the first is the wave vector
--   arms_in_list            their operations are in the list
--   star_is                 the lines of the star
--   readings_of             what the values stand for
--   full_is                 the lines of a representation
--   text_is                 the whole text
use Rattle.std.proofs.Common.{◌≡◌, sym, ◌∙◌, ap, ap₂, subst, refl, ℕ, suc, ◌<◌, List, ◌∷◌, [], ◌++◌, append_assoc, length, map, get_or}
use Rattle.std.specs.Int.{◌∣◌}
use Rattle.std.specs.Prelude.{codes}
use Rattle.std.specs.List.{flat_map}
use Rattle.std.specs.Fmt.{decimal}
use Rattle.std.proofs.lemmas.List.{length-map}
use Rattle.irr_algebra.specs.Fin.{Fin, to_nat}
use Rattle.irr_algebra.specs.Matrix.{trace}
use Rattle.irr_algebra.specs.Pair.{times}
use Rattle.irr_algebra.proofs.Indices.{from_nat, to_nat-from_nat}
use Rattle.irr_rational.proofs.Lexicographic.{at_most_antisymm}
use Rattle.irr_theory.specs.Representations.{Representations}
use Rattle.irr_lattice.proofs.Vectors.{wave-ext}
use Rattle.irr_space.specs.Operation.{Operation, WaveVector, wave_component}
use Rattle.irr_space.specs.Reciprocal.{IsReduced}
use Rattle.irr_space.specs.PhaseTable.{phases_at}
use Rattle.irr_space.specs.CompleteList.{over}
use Rattle.irr_text.specs.NumberText.{number_text}
use Rattle.irr_text.specs.ReportText.{pieces, line, next_word}
use Rattle.irr_text.specs.StarText.{arm_line, little_line}
use Rattle.irr_seitz.specs.OperationMeaning.{operation}
use Rattle.irr_seitz.specs.PhaseMeaning.{sign_of}
use Rattle.irr_seitz.specs.declared.op.Op.{Op}
use Rattle.irr_kvec.specs.WaveMeaning.{wave_vector}
use Rattle.irr_cyc.specs.declared.scalars.Scalar.{Ghosts}
use Rattle.irr_rep.specs.Twisted.{phase_table}
use Rattle.irr_rep.specs.declared.table.Twisted.{Twisted}
use Rattle.irr_close.specs.StandsFor.{stands_for}
use Rattle.irr_close.specs.declared.group.Group.{Group}
use Rattle.irr_close.proofs.SpaceGroups.{space_group}
use Rattle.irr_little.proofs.Spaces.{has_canonical}
use Rattle.irr_little.specs.declared.arms.Arm.{Arm}
use Rattle.irr_full.specs.Star.{Star, carrier}
use Rattle.irr_report.specs.Printed.{numbered, operation_text}
use Rattle.irr_report.proofs.Pieces.{pieces-numbered, pieces-same}
use Rattle.irr_star.specs.declared.full.Full.{Full}
use Rattle.irr_star.proofs.MemberSizes.{same_member}
use Rattle.irr_full_text.specs.FullText.{FullContent, generator_line, generator_matrix, trace_line, full_lines, full_text, full_content}
use Rattle.irr_full_text.specs.Lines.{AreInList, head_text, arm_words, arm_text, star_text, generator_text, trace_word, matrix_text, representation_text}
use Rattle.irr_full_text.specs.Reading.{Readings, ArePrintable}
use Rattle.irr_full_text.specs.Printed.{Matrices, IsPrintedStar, AreFullsOf}
use Rattle.irr_full_text.proofs.FirstArms.{first_arm, first_wave}
use Rattle.irr_full_text.proofs.Texts.{numbered-map}

reduced_unique : (G : Operation → Type 0) (k r s : WaveVector) → IsReduced G k r → IsReduced G k s → r ≡ s
reduced_unique G k r s p q = wave-ext r s (at_most_antisymm (wave_component r) (wave_component s)
    (p.least s q.equivalent q.no_negative) (q.least r p.equivalent p.no_negative))

numbered-flat : {A : Type 0} (g : A → List ℕ) (k : ℕ) (xs : List A) → numbered (λ n. g) k xs ≡ flat_map g xs
unfolding numbered
numbered-flat g k [] = refl
numbered-flat g k (x ∷ xs) = ap (λ t. g x ++ t) (numbered-flat g (suc k) xs)

module _ (group : Group) (arms : List Arm) (t : Twisted) {k : WaveVector}
    (S : Star (sign_of group.phase) (stands_for group) k)
    (is : IsPrintedStar group arms t S) where
  start_below : 0 < S.arms
  start_below = first_arm (stands_for group) (space_group group).is_group (has_canonical group) k S.canonical
      S.canonical_numbering S.arm S.number S.are_arms

  pub some_arms : 0 < length arms
  some_arms = subst (λ n. 0 < n) (sym is.star.are_arms.count) start_below

  pub first_is : (a : Arm) → wave_vector (get_or arms 0 a).wave ≡ k
  first_is a =
      let start = from_nat S.arms 0 start_below in
      let at = to_nat-from_nat S.arms 0 start_below in
      ap (λ n. wave_vector (get_or arms n a).wave) (sym at) ∙ is.star.are_arms.wave start a
      ∙ reduced_unique (stands_for group) k (S.arm start) k
      (first_wave (stands_for group) (space_group group).is_group (has_canonical group) k S.canonical
      S.canonical_numbering S.arm S.number S.are_arms start at)
      is.reduced

  pub arms_in_list : AreInList group.ops.items arms
  arms_in_list i a l =
      let m : i < S.arms = subst (λ n. i < n) is.star.are_arms.count l in
      subst (λ n. (get_or arms n a).op < length group.ops.items) (to_nat-from_nat S.arms i m)
      (is.star.are_arms.below (from_nat S.arms i m) a)

  arm-pieces : (d : Op) → pieces S.arms (λ i. arm_line i (S.arm i) (carrier S i))
      ≡ numbered (arm_text group.ops.items d) 1 arms
  unfolding arm_line
  arm-pieces d = pieces-numbered (arm_text group.ops.items d) arms S.arms is.star.are_arms.count
      (λ i. arm_line i (S.arm i) (carrier S i))
      (λ i x l e. ap₂ (arm_words (suc (to_nat i))) (sym (is.star.are_arms.wave i x))
      (sym (is.star.are_arms.carriers i x d))
      ∙ ap (λ (y : Arm). arm_words (suc (to_nat i)) (wave_vector y.wave) (operation (get_or group.ops.items y.op d)))
      (sym e))

  operation-pieces : pieces S.count (λ i. little_line i (S.canonical i)) ≡ numbered operation_text 1 group.ops.items
  unfolding little_line
  operation-pieces = pieces-numbered operation_text group.ops.items S.count is.count
      (λ i. little_line i (S.canonical i))
      (λ i x l e. ap (λ (g : Operation). little_line i g) (sym (is.canonical i x) ∙ ap operation (sym e)))

  word_pieces : (g : Operation → List ℕ) → pieces S.count (λ i. g (S.canonical i))
      ≡ flat_map (λ (x : Op). g (operation x)) group.ops.items
  word_pieces g = pieces-numbered (λ n (x : Op). g (operation x)) group.ops.items S.count is.count
      (λ i. g (S.canonical i))
      (λ i x l e. ap g (sym (is.canonical i x) ∙ ap operation (sym e))) ∙ numbered-flat (λ (x : Op). g (operation x)) 1
      group.ops.items

  module _ (gens : List Op) (L : Representations (phases_at S.table)) (A : Matrices group S L) where
    abbrev pub content : FullContent
    content = full_content k S (map operation gens) (λ m. times S.arms (L.size m)) A

    -- the lines of one representation
    abbrev pub part : Fin L.count → List ℕ
    part m = representation_text S.table.order (A m) group.ops.items gens (suc (to_nat m))

    trace_is : (m : Fin L.count) → trace_line content m
        ≡ line (codes "char" ++ flat_map (trace_word S.table.order (A m)) group.ops.items)
    unfolding trace_line
    trace_is m = ap (λ w. line (codes "char" ++ w))
        (word_pieces (λ g. next_word (number_text S.table.order (trace (A m g)))))

    matrices_are : (m : Fin L.count) → numbered (generator_matrix content m) 1 (map operation gens)
        ≡ numbered (matrix_text S.table.order (A m)) 1 gens
    unfolding generator_matrix
    matrices_are m = numbered-map operation (generator_matrix content m) 1 gens

    full_is : (m : Fin L.count) → part m ≡ full_lines content m
    unfolding full_lines
    full_is m = ap₂ (λ s u. line (codes "rep" ++ next_word (83 ∷ decimal (suc (to_nat m))) ++ next_word (codes "dim")
        ++ next_word (decimal (times S.arms (L.size m)))) ++ s ++ u) (sym (trace_is m)) (sym (matrices_are m))

    generators_text : numbered generator_line 1 (map operation gens) ≡ numbered generator_text 1 gens
    unfolding generator_line
    generators_text = numbered-map operation generator_line 1 gens

    pub text_is : (d : Op) (a : Arm) (order count : ℕ) (star begun listed counted filled text : List ℕ) → order
        ≡ S.table.order → count ≡ L.count
        → star ≡ star_text group.ops.items arms order d a
        → begun ≡ star ++ (codes "gens " ++ (decimal (length gens) ++ codes "\n")) → listed ≡ begun
        ++ numbered generator_text 1 gens
        → counted ≡ listed ++ (codes "reps " ++ (decimal count ++ codes "\n")) → filled ≡ counted ++ pieces L.count part
        → text ≡ filled ++ codes "end\n" → text ≡ full_text content
    unfolding full_text
    text_is d a order count star begun listed counted filled text e f p q r s t u =
        u ∙ ap (λ x. x ++ codes "end\n") (t ∙ ap (λ x. x ++ pieces L.count part) (s
        ∙ ap (λ x. x ++ (codes "reps " ++ (decimal count ++ codes "\n")))
        (r ∙ ap (λ x. x ++ numbered generator_text 1 gens) (q
        ∙ ap (λ x. x ++ (codes "gens " ++ (decimal (length gens) ++ codes "\n"))) p))))
        ∙ ap₂ (λ x y. (((star_text group.ops.items arms order d a ++ x) ++ numbered generator_text 1 gens) ++ y)
        ++ pieces L.count part ++ codes "end\n")
        (gens_line ∙ ap (λ n. line (codes "gens" ++ next_word (decimal n))) (sym (length-map gens operation)))
        (reps_line ∙ ap (λ n. line (codes "reps" ++ next_word (decimal n))) f)
        ∙ ap₂ (λ x y. (((x ++ gens_text) ++ y) ++ reps_text) ++ pieces L.count part ++ codes "end\n") star_is
        (sym generators_text)
        ∙ ap (λ x. (((whole_star ++ gens_text) ++ numbered generator_line 1 (map operation gens)) ++ reps_text) ++ x
        ++ codes "end\n")
        (pieces-same L.count part (λ m. full_lines content m) full_is)
      where
        gens_line : codes "gens " ++ (decimal (length gens) ++ codes "\n")
            ≡ line (codes "gens" ++ next_word (decimal (length gens)))
        gens_line = sym (append_assoc (codes "gens ") (decimal (length gens)) (codes "\n"))

        reps_line : codes "reps " ++ (decimal count ++ codes "\n") ≡ line (codes "reps" ++ next_word (decimal count))
        reps_line = sym (append_assoc (codes "reps ") (decimal count) (codes "\n"))

        gens_text : List ℕ
        gens_text = line (codes "gens" ++ next_word (decimal (length (map operation gens))))

        reps_text : List ℕ
        reps_text = line (codes "reps" ++ next_word (decimal L.count))

        whole_star : List ℕ
        whole_star = head_text k S.table.order S.arms ++ pieces S.arms (λ i. arm_line i (S.arm i) (carrier S i))
            ++ line (codes "ops" ++ next_word (decimal S.count)) ++ pieces S.count (λ i. little_line i (S.canonical i))

        head_is : head_text (wave_vector (get_or arms 0 a).wave) order (length arms) ≡ head_text k S.table.order S.arms
        head_is = ap (λ w. head_text w order (length arms)) (first_is a) ∙ ap₂ (head_text k) e is.star.are_arms.count

        star_is : star_text group.ops.items arms order d a ≡ whole_star
        star_is = ap₂ (λ x y. x ++ y ++ line (codes "ops" ++ next_word (decimal (length group.ops.items)))
            ++ numbered operation_text 1 group.ops.items)
            head_is (sym (arm-pieces d))
            ∙ ap₂ (λ n y. head_text k S.table.order S.arms ++ pieces S.arms (λ i. arm_line i (S.arm i) (carrier S i))
            ++ line (codes "ops" ++ next_word (decimal n)) ++ y) is.count (sym operation-pieces)

module _ {X : Type 0} {V : Ghosts X} (group : Group) (arms : List Arm) (t : Twisted) {k : WaveVector}
    (S : Star (sign_of group.phase) (stands_for group) k) (is : IsPrintedStar group arms t S)
    (v : S.table.order ∣ S.table.order)
    (L : Representations (phases_at S.table)) (A : Matrices group S L) (fulls : List (Full X V))
    (are : AreFullsOf group S v L A fulls)
    (order : ℕ) (same : order ≡ (phase_table t).order) (gens : List Op)
    (operations : ArePrintable group group.ops.items) (generators : ArePrintable group gens) where
  pub along : (m : Fin L.count) (f : Full X V) (ops : List Op) → ArePrintable group ops
      → ArePrintable (get_or fulls (to_nat m) f).group ops
  along m f ops all i d l =
      let full = get_or fulls (to_nat m) f in
      let q = (are.induced m f).same in (
        same_member full.group group (record { ops = sym q.ops; centrings = sym q.centrings; phase = sym q.phase })
            (operation (get_or ops i d)) (all i d l).0,
        (all i d l).1,
      )

  abbrev pub readings_of : Readings order group.ops.items gens fulls
  readings_of = record {
    count = L.count;
    is_count = are.count;
    reading = λ m f. record {
      group = group;
      wave = k;
      star = S;
      number = S.table.order;
      divides = v;
      size = L.size m;
      small = over S.table S.table.order v (L.member m);
      induced = are.induced m f;
      matrix = A m;
      is_full = are.is_full m;
    };
    is_order = λ m f. same ∙ is.order ∙ sym (are.induced m f).order;
    operations = λ m f. along m f group.ops.items operations;
    generators = λ m f. along m f gens generators;
    text = λ m. representation_text S.table.order (A m) group.ops.items gens (suc (to_nat m));
    is_text = λ m f. refl;
  }
