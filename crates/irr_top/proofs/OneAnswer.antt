-- Words and bytes ask for one status: so does each stage.
--   asked_once       the status
--   reads_made       a command that reads an input has no number of a made one
use Rattle.std.proofs.Common.{◌≡◌, refl, sym, ◌∙◌, ap, ap₂, subst, ℕ, ◌+◌, Bool, nat_eq, List, [], ◌∷◌, Option, Some, None, length}
use Rattle.std.specs.Prelude.{codes, if◌then◌else◌}
use lib.Pointwise.{pointwise}
use Rattle.irr_space.specs.Operation.{Operation, Vector, WaveVector}
use Rattle.irr_space.specs.SpaceGroup.{Generated}
use Rattle.irr_space.specs.Reciprocal.Sign.{minus}
use Rattle.irr_text.specs.ReportText.{ReportContent}
use Rattle.irr_seitz.specs.declared.op.Op.{Op}
use Rattle.irr_kvec.specs.WaveMeaning.{wave_vector}
use Rattle.irr_gen.specs.MadeInput.{IsMadeInput, made_wave}
use Rattle.irr_gen.proofs.OneInput.{one_text}
use Rattle.irr_input.specs.Command.{AreOneCommand, Argument, arguments_of, verb_of, verb_word}
use Rattle.irr_input.specs.Command.Argument.{wave, point, form, number}
use Rattle.irr_input.specs.Stages.{SubContent}
use Rattle.irr_input.specs.InputLines.{IsInput, HasLines}
use Rattle.irr_input.specs.declared.form.Form.{Form}
use Rattle.irr_input.specs.declared.form.Form.TheVariants.{Rank1}
use Rattle.irr_input.specs.declared.input.GenLine.{GenLine}
use Rattle.irr_input.specs.declared.input.Reason.TheVariants.{Missing}
use Rattle.irr_input.proofs.OneInput.{fault_or_limit, faulty_line_unique, input_or_fault, input_or_limit, input_unique, limit_line_unique}
use Rattle.irr_rat.specs.VectorMeaning.{vector}
use Rattle.irr_input.proofs.PointTexts.{zero_point}
use Rattle.irr_input.proofs.WaveTexts.{zero_wave}
use Rattle.irr_input.proofs.WordForms.{faulty_unique, words_unique}
use Rattle.irr_check.specs.Trials.Reading.{meaning}
use Rattle.irr_check.proofs.OneVerdict.{one_verdict}
use Rattle.irr_top.specs.GroupOf.{group_of}
use Rattle.irr_top.specs.CheckCommand.{verdict_status}
use Rattle.irr_top.specs.Question.{Question, question_of}
use Rattle.irr_top.specs.Question.Question.{star, small, full, product, subduce, compat, real, square, tensor, site, check, summary}
use Rattle.irr_top.specs.Answer.{AsksOfGroup, IsReply, order_limit}
use Rattle.irr_top.specs.Answer.AsksOfGroup.{order_too_large, reply}
use Rattle.irr_top.specs.Asked.{Asks, AsksOfRequest, IsInputOf, AsksOfBytes, AsksOfLines, AsksOfInput, AsksOfGenerators, input_limit, operations_of}
use Rattle.irr_top.specs.Asked.AsksOfGenerators.{refused, group}
use Rattle.irr_top.specs.Asked.AsksOfInput.{missing, question}
use Rattle.irr_top.specs.Asked.AsksOfLines.{faulty_line, limited_line, input}
use Rattle.irr_top.specs.Asked.AsksOfBytes.{too_long, lines}
use Rattle.irr_top.specs.Asked.Asks.{faulty_word, request}
use Rattle.irr_top.specs.Request.{command_of, made_number, IsCommand, IsRequested, ReadsInput}
use Rattle.irr_top.specs.declared.request.Request.{Request}
use Rattle.irr_top.specs.declared.request.Request.TheVariants.{Star, Small, Full, Product, Subduce, Compat, Real, Square, Tensor, Site, Check, Gen}
use Rattle.irr_top.specs.declared.status.Status.{Status}
use Rattle.irr_top.specs.declared.status.Status.TheVariants.{Usage, BadInput, TooLarge}
use Rattle.irr_top.specs.declared.status.Kind.TheVariants.{Report, Order}
use Rattle.irr_top.proofs.PassedLimits.{limit_once, passes, refused_or_accepted}
use Rattle.irr_top.proofs.OneSubgroup.{one_reply}
use Rattle.irr_top.proofs.LineNumbers.{line_count_once}
use Rattle.irr_top.proofs.Orders.{large_once, within_or_above}
use Rattle.irr_top.proofs.SameGenerators.{AreSame, same_operations, operations_same, refusal_along, accepted_along}

-- of a group

reply_once : (q : Question) (G : Operation → Type 0) (s t : Status) (x y : List ℕ) → IsReply q G s x → IsReply q G t y
    → s ≡ t
reply_once (star k) G s t x y a b = a.0 ∙ sym b.0
reply_once (small k) G s t x y a b = a.0 ∙ sym b.0
reply_once (full k) G s t x y a b = a.0 ∙ sym b.0
reply_once (product k l) G s t x y a b = a.0 ∙ sym b.0
reply_once (subduce k S) G s t x y a b = one_reply G S k a b
reply_once (compat k others) G s t x y a b = a.0 ∙ sym b.0
reply_once (real k) G s t x y a b = a.0 ∙ sym b.0
reply_once (square k) G s t x y a b = a.0 ∙ sym b.0
reply_once (tensor f) G s t x y a b = a.0 ∙ sym b.0
reply_once (site p k) G s t x y a b = a.0 ∙ sym b.0
reply_once (summary n m k) G s t x y a b = a.0 ∙ sym b.0
reply_once (check r) G s t x y a b = a.is_status ∙ ap verdict_status (one_verdict meaning minus G r a.is_verdict b.is_verdict) ∙ sym b.is_status

group_once : (q : Question) (G : Operation → Type 0) {s t : Status} {x y : List ℕ} → AsksOfGroup q G s x
    → AsksOfGroup q G t y → s ≡ t
group_once q G (order_too_large {n = m} a) (order_too_large {n = n} b) = ap (λ i. TooLarge (Order i)) (large_once q G m n a b)
group_once q G (order_too_large {n = m} a) (reply w b) = absurd (within_or_above m order_limit (w a.place m a.is_order) a.above)
group_once q G (reply w a) (order_too_large {n = n} b) = absurd (within_or_above n order_limit (w b.place n b.is_order) b.above)
group_once q G {s = s} {t = t} {x = x} {y = y} (reply w a) (reply v b) = reply_once q G s t x y a b

-- of generators

generators_once : (q : Question) (gens : List Op) {s t : Status} {x y : List ℕ} → AsksOfGenerators q gens s x
    → AsksOfGenerators q gens t y → s ≡ t
generators_once q gens (refused d p r) (refused e o u) = ap TooLarge (limit_once gens d e p o r u)
generators_once q gens (refused d p r) (group a g) = absurd (refused_or_accepted gens d (passes d p) r a)
generators_once q gens (group a g) (refused d p r) = absurd (refused_or_accepted gens d (passes d p) r a)
generators_once q gens (group a g) (group b h) = group_once q (group_of gens) g h

generators_along : (q : Question) {gens hens : List Op} {s : Status} {x : List ℕ} → AreSame gens hens
    → AsksOfGenerators q gens s x
    → AsksOfGenerators q hens s x
generators_along q same (refused e p r) = refused e p (refusal_along e same r)
generators_along q {s = s} {x = x} same (group a g) = group (accepted_along same a)
    (subst (λ gs. AsksOfGroup q (Generated gs) s x) (operations_same same) g)

-- of an input

-- what the word of a command and its arguments ask
no_wave : WaveVector
no_wave = wave_vector zero_wave

no_point : Vector
no_point = vector zero_point

wave_at : List Argument → WaveVector
wave_at [] = no_wave
wave_at (wave k ∷ args) = k
wave_at (point x ∷ args) = no_wave
wave_at (form f ∷ args) = no_wave
wave_at (number n ∷ args) = no_wave

form_at : List Argument → Form
form_at [] = Rank1
form_at (wave k ∷ args) = Rank1
form_at (point x ∷ args) = Rank1
form_at (form f ∷ args) = f
form_at (number n ∷ args) = Rank1

point_at : List Argument → Vector
point_at [] = no_point
point_at (wave k ∷ args) = no_point
point_at (point x ∷ args) = x
point_at (form f ∷ args) = no_point
point_at (number n ∷ args) = no_point

others : List Argument → List Argument
others [] = []
others (a ∷ args) = args

waves_at : List Argument → List WaveVector
waves_at [] = []
waves_at (wave k ∷ args) = k ∷ waves_at args
waves_at (point x ∷ args) = waves_at args
waves_at (form f ∷ args) = waves_at args
waves_at (number n ∷ args) = waves_at args

number_at : List Argument → ℕ
number_at [] = 0
number_at (wave k ∷ args) = 0
number_at (point x ∷ args) = 0
number_at (form f ∷ args) = 0
number_at (number n ∷ args) = n

restriction : WaveVector → Option SubContent → Option Question
restriction k None = None
restriction k (Some S) = Some (subduce k S)

verdict : Option ReportContent → Option Question
verdict None = None
verdict (Some r) = Some (check r)

is_word : List ℕ → List ℕ → Bool
is_word = pointwise nat_eq

asks : List ℕ → List Argument → Option SubContent → Option ReportContent → ℕ → Option Question
asks w args o c n = if is_word w (codes "star") then Some (star (wave_at args))
    else (if is_word w (codes "small") then Some (small (wave_at args))
    else (if is_word w (codes "full") then Some (full (wave_at args))
    else (if is_word w (codes "product") then Some (product (wave_at args) (wave_at (others args)))
    else (if is_word w (codes "subduce") then restriction (wave_at args) o
    else (if is_word w (codes "compat") then Some (compat (wave_at args) (waves_at (others args)))
    else (if is_word w (codes "real") then Some (real (wave_at args))
    else (if is_word w (codes "square") then Some (square (wave_at args))
    else (if is_word w (codes "tensor") then Some (tensor (form_at args))
    else (if is_word w (codes "site") then Some (site (point_at args) (wave_at (others args)))
    else (if is_word w (codes "check") then verdict c
    else Some (summary (number_at args) n (made_wave (number_at args)))))))))))))

asks_of : (r : Request) (o : Option SubContent) (c : Option ReportContent) (n : ℕ)
    → asks (verb_word (verb_of (command_of r))) (arguments_of (command_of r)) o c n ≡ question_of r o c n
unfolding asks is_word wave_at waves_at form_at point_at number_at others restriction verdict
asks_of (Star k) o c n = refl
asks_of (Small k) o c n = refl
asks_of (Full k) o c n = refl
asks_of (Product k l) o c n = refl
asks_of (Subduce k) None c n = refl
asks_of (Subduce k) (Some S) c n = refl
asks_of (Compat k l None) o c n = refl
asks_of (Compat k l (Some m)) o c n = refl
asks_of (Real k) o c n = refl
asks_of (Square k) o c n = refl
asks_of (Tensor f) o c n = refl
asks_of (Site x k) o c n = refl
asks_of Check o None n = refl
asks_of Check o (Some r) n = refl
asks_of (Gen m) o c n = refl

question_once : (r q : Request) (o p : Option SubContent) (c d : Option ReportContent) (m n : ℕ) → AreOneCommand (command_of r) (command_of q)
    → o ≡ p → c ≡ d → m ≡ n → question_of r o c m ≡ question_of q p d n
question_once r q o p c d m n h u e f = sym (asks_of r o c m)
    ∙ ap₂ (λ w args. asks w args o c m) (ap verb_word h.verb) h.arguments
    ∙ ap (λ x. asks (verb_word (verb_of (command_of q))) (arguments_of (command_of q)) x c m) u
    ∙ ap₂ (asks (verb_word (verb_of (command_of q))) (arguments_of (command_of q)) p) e f
    ∙ asks_of q p d n

-- the number of a made input, of the word of a command and its arguments
made : List ℕ → List Argument → Option ℕ
made w args = if is_word w (codes "gen") then Some (number_at args) else None

made_of : (r : Request) → made (verb_word (verb_of (command_of r))) (arguments_of (command_of r)) ≡ made_number r
unfolding made is_word number_at
made_of (Star k) = refl
made_of (Small k) = refl
made_of (Full k) = refl
made_of (Product k l) = refl
made_of (Subduce k) = refl
made_of (Compat k l None) = refl
made_of (Compat k l (Some m)) = refl
made_of (Real k) = refl
made_of (Square k) = refl
made_of (Tensor f) = refl
made_of (Site x k) = refl
made_of Check = refl
made_of (Gen n) = refl

made_once : (r q : Request) → AreOneCommand (command_of r) (command_of q) → made_number r ≡ made_number q
made_once r q h = sym (made_of r) ∙ ap₂ made (ap verb_word h.verb) h.arguments ∙ made_of q

pub reads_made : (words : List (List ℕ)) (r : Request) → IsRequested words r → ReadsInput words → made_number r ≡ None
reads_made words r is x = made_once r x.0 (words_unique words (command_of r) (command_of x.0) is x.1) ∙ x.2

-- two readings of one input by one command
module _ (r q : Request) (o p : Option SubContent) (c d : Option ReportContent) (gens hens : List Op) (m n : ℕ)
    (one : question_of r o c m ≡ question_of q p d n) (same : AreSame gens hens) (lines_same : m ≡ n) where
  missing_or_not : {k : Question} → question_of r o c m ≡ None → question_of q p d n ≡ Some k → ⊥
  missing_or_not {k} a b = let f : None ≡ Some k = sym a ∙ one ∙ b in cc

  found_or_not : {k : Question} → question_of r o c m ≡ Some k → question_of q p d n ≡ None → ⊥
  found_or_not {k} a b = let f : Some k ≡ None = sym a ∙ one ∙ b in cc

  same_question : (k l : Question) → question_of r o c m ≡ Some k → question_of q p d n ≡ Some l → k ≡ l
  same_question k l a b = let f : Some k ≡ Some l = sym a ∙ one ∙ b in cc

  pub input_once : {s t : Status} {x y : List ℕ} → AsksOfInput r gens o c m s x → AsksOfInput q hens p d n t y → s ≡ t
  input_once (missing a) (missing b) = ap (λ i. BadInput (i + 1) Missing) lines_same
  input_once (missing a) (question k b g) = absurd (missing_or_not a b)
  input_once (question k a g) (missing b) = absurd (found_or_not a b)
  input_once {s = s} {x = x} (question k a g) (question l b h) = generators_once l hens
      (generators_along l same (subst (λ i. AsksOfGenerators i gens s x) (same_question k l a b) g)) h

-- of bytes
module _ (r q : Request) (one : AreOneCommand (command_of r) (command_of q)) (bytes : List ℕ) where
  inputs_once : (ks ls : List GenLine) (o p : Option SubContent) (c d : Option ReportContent) (m n : ℕ) → IsInput bytes ks o c
      → IsInput bytes ls p d → HasLines bytes m
      → HasLines bytes n → {s t : Status} {x y : List ℕ} → AsksOfInput r (operations_of ks) o c m s x
      → AsksOfInput q (operations_of ls) p d n t y → s ≡ t
  inputs_once ks ls o p c d m n i j h g a b =
      let all = input_unique bytes ks ls o p c d i j in
      let count : m ≡ n = line_count_once bytes m n h g in
      input_once r q o p c d (operations_of ks) (operations_of ls) m n (question_once r q o p c d m n one all.1 all.2 count)
      (same_operations ks ls all.0) count a b

  lines_once : {s t : Status} {x y : List ℕ} → AsksOfLines r bytes s x → AsksOfLines q bytes t y → s ≡ t
  lines_once (faulty_line {n = m} {reason = a} f) (faulty_line {n = n} {reason = b} g) =
      let same = faulty_line_unique bytes m n a b f g in ap₂ BadInput same.0 same.1
  lines_once (faulty_line {n = m} {reason = a} f) (limited_line {n = n} g) = absurd (fault_or_limit bytes m n a f g)
  lines_once (faulty_line {n = m} {reason = a} f) (input ls o c n i h b) = absurd (input_or_fault bytes ls o c m a i f)
  lines_once (limited_line {n = m} f) (faulty_line {n = n} {reason = b} g) = absurd (fault_or_limit bytes n m b g f)
  lines_once (limited_line {n = m} f) (limited_line {n = n} g) = ap (λ i. TooLarge (Report i)) (limit_line_unique bytes m n f g)
  lines_once (limited_line {n = m} f) (input ls o c n i h b) = absurd (input_or_limit bytes ls o c m i f)
  lines_once (input ls o c n i h a) (faulty_line {n = m} {reason = b} g) = absurd (input_or_fault bytes ls o c m b i g)
  lines_once (input ls o c n i h a) (limited_line {n = m} g) = absurd (input_or_limit bytes ls o c m i g)
  lines_once (input ks o c m i h a) (input ls p d n j g b) = inputs_once ks ls o p c d m n i j h g a b

  pub bytes_once : {s t : Status} {x y : List ℕ} → AsksOfBytes r bytes s x → AsksOfBytes q bytes t y → s ≡ t
  bytes_once (too_long l) (too_long h) = refl
  bytes_once (too_long l) (lines h b) = absurd (within_or_above (length bytes) input_limit h l)
  bytes_once (lines l a) (too_long h) = absurd (within_or_above (length bytes) input_limit l h)
  bytes_once (lines l a) (lines h b) = lines_once a b

-- the input of a request
input_of_once : (a b : Option ℕ) (bytes x y : List ℕ) → a ≡ b → IsInputOf a bytes x → IsInputOf b bytes y → x ≡ y
input_of_once None None bytes x y e p o = p ∙ sym o
input_of_once None (Some n) bytes x y e p o = absurd (let f : None ≡ Some n = e in cc)
input_of_once (Some m) None bytes x y e p o = absurd (let f : Some m ≡ None = e in cc)
input_of_once (Some m) (Some n) bytes x y e p o =
    let same : m ≡ n = (let f : Some m ≡ Some n = e in cc) in
    one_text n x y p.0 o.0 (subst (λ i. IsMadeInput i x p.0) same p.1) o.1

request_once : (r q : Request) → AreOneCommand (command_of r) (command_of q) → (bytes : List ℕ) {s t : Status} {x y : List ℕ}
    → AsksOfRequest r bytes s x → AsksOfRequest q bytes t y → s ≡ t
request_once r q one bytes {s} {t} {x} {y} a b =
    let same : b.input ≡ a.input = sym (input_of_once (made_number r) (made_number q) bytes a.input b.input (made_once r q one)
    a.is_input b.is_input) in
    bytes_once r q one a.input a.asks (subst (λ i. AsksOfBytes q i t y) same b.asks)

pub asked_once : (words : List (List ℕ)) (bytes : List ℕ) {s t : Status} {x y : List ℕ} → Asks words bytes s x
    → Asks words bytes t y → s ≡ t
asked_once words bytes (faulty_word {n = m} p) (faulty_word {n = n} q) = ap Usage (faulty_unique IsCommand words m n p q)
asked_once words bytes (faulty_word p) (request r a b) = absurd (p.no_command (r, a))
asked_once words bytes (request r a b) (faulty_word p) = absurd (p.no_command (r, a))
asked_once words bytes (request r a b) (request q c d) = request_once r q (words_unique words (command_of r) (command_of q) a c) bytes b d
