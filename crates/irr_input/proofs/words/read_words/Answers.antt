-- The words are read from the first on.
use Rattle.std.proofs.Common.{ap, ◌≡◌, refl, sym, ◌∙◌, subst, ℕ, List, [], ◌∷◌, length, Vec, Global, Result, Ok, Err, IfOk, IfErr, arith}
use Rattle.std.specs.Prelude.{IsOkAnd}
use Rattle.irr_input.specs.declared.words.Command.{Command}
use Rattle.irr_input.specs.declared.words.Usage.{Usage}
use Rattle.irr_input.specs.declared.verb.Verb.{Verb}
use Rattle.irr_input.specs.Command.{texts, verb_of, verb_word, arguments_of, AreWordsOf, AreWords, AreOneCommand, IsCommand, IsFaulty}
use Rattle.irr_input.specs.Forms.{form_of, IsRefusedFrom}
use Rattle.irr_input.proofs.WordForms.{are_words, faulty-none, faulty-first, faulty-behind, words_unique}
use Rattle.irr_input.proofs.words.read_words.Goals as goal

texts-none : (words : List (Vec ℕ Global)) → length words ≡ 0 → texts words ≡ []
texts-none [] e = refl
texts-none (w ∷ ws) e = absurd (omega arith)

-- what is read of the words behind a command word
record IsRead (words : List (List ℕ)) (first : List ℕ) (behind : List (List ℕ)) (v : Verb) (r : Result Command Usage) : Type 0 where
  pub parts : words ≡ first ∷ behind
  pub named : first ≡ verb_word v
  pub verb : IfOk r (λ c. verb_of c ≡ v)
  pub arguments : IfOk r (λ c. AreWordsOf (arguments_of c) behind)
  pub refused : IfErr r (λ e. IsRefusedFrom 2 (form_of v) behind e.0)

read-words : (words : List (List ℕ)) (first : List ℕ) (behind : List (List ℕ)) (v : Verb) (r : Result Command Usage) → IsRead words first behind v r → IfOk r (AreWords words)
read-words words first behind v (Ok c) h = subst (λ ws. AreWords ws c) (sym h.parts) (are_words v first behind c h.named h.verb h.arguments)
read-words words first behind v (Err e) h = tt

read-faulty : (words : List (List ℕ)) (first : List ℕ) (behind : List (List ℕ)) (v : Verb) (r : Result Command Usage) → IsRead words first behind v r → IfErr r (λ e. IsFaulty IsCommand words e.0)
read-faulty words first behind v (Ok c) h = tt
read-faulty words first behind v (Err e) h = subst (λ ws. IsFaulty IsCommand ws e.0) (sym h.parts) (faulty-behind v first behind e.0 h.named h.refused)

read-only : (words : List (List ℕ)) (r : Result Command Usage) → IfOk r (AreWords words) → IfErr r (λ e. IsFaulty IsCommand words e.0) → (c : Command) → AreWords words c → IsOkAnd r (AreOneCommand c)
read-only words (Ok d) h f c g = words_unique words c d g h
read-only words (Err e) h f c g = absurd (f.no_command (c, g))

pub returns-in_default-clause-faulty : goal.returns-in_default-clause-faulty
returns-in_default-clause-faulty c = subst (λ ws. IsFaulty IsCommand ws 1) (sym (texts-none c.args.words.now c.in_default.ensures.cases)) faulty-none

pub returns-in_default-named_verb-clause-faulty : goal.returns-in_default-named_verb-clause-faulty
returns-in_default-named_verb-clause-faulty c = subst (λ ws. IsFaulty IsCommand ws 1) (sym (ap texts c.in-Some.ensures.cases.0))
    (faulty-first c.in-Some.first.now.items (texts c.in-Some.rest.now) (λ v e. c.in_default-named_verb.not-Some v (c.named_verb.ensures.only v (c.deref.ensures.value ∙ e))))

is_read : (c : goal.After-with_arguments) → IsRead (texts c.args.words.now) c.in-Some.first.now.items (texts c.in-Some.rest.now) c.in-Some-named_verb.verb c.with_arguments.result
is_read c = record {
  parts = ap texts c.in-Some.ensures.cases.0;
  named = sym c.deref.ensures.value ∙ c.in-Some-named_verb.ensures.found;
  verb = c.with_arguments.ensures.verb;
  arguments = c.with_arguments.ensures.arguments;
  refused = c.with_arguments.ensures.refused;
}

pub returns-clause-words : goal.returns-clause-words
returns-clause-words c = read-words (texts c.args.words.now) c.in-Some.first.now.items (texts c.in-Some.rest.now) c.in-Some-named_verb.verb c.with_arguments.result (is_read c)

pub returns-clause-faulty : goal.returns-clause-faulty
returns-clause-faulty c = read-faulty (texts c.args.words.now) c.in-Some.first.now.items (texts c.in-Some.rest.now) c.in-Some-named_verb.verb c.with_arguments.result (is_read c)

pub returns-clause-only : goal.returns-clause-only
returns-clause-only c = read-only (texts c.args.words.now) c.with_arguments.result (returns-clause-words c) (returns-clause-faulty c)
