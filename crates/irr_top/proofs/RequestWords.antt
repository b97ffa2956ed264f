-- Which words are a request, and which word is the first faulty one.
--   served_command       a command whose verb is served is a request
--   faulty_unserved      the first word is that of no command that is served, or there is none
--   faulty_served        behind the word of a command that is served, a word is faulty where it is for all commands
use Rattle.std.proofs.Common.{◌≡◌, refl, sym, ◌∙◌, ap, ℕ, zero, suc, ◌≤◌, Bool, true, false, nat_eq, inl, inr, List, [], ◌∷◌, ◌++◌, length, take, arith}
use Rattle.std.specs.Prelude.{codes, if◌then◌else◌}
use lib.Pointwise.{pointwise}
use Rattle.irr_grammar.specs.ShapePlace.{BeginsIn}
use Rattle.irr_input.specs.Command.{AreWords, IsFaulty, verb_of, verb_word, IsCommand as IsAnyCommand}
use Rattle.irr_input.specs.declared.words.Command.{Command}
use Rattle.irr_input.specs.declared.words.Command.TheVariants as commands
use Rattle.irr_input.proofs.WaveTexts.{zero-text, zero_wave}
use Rattle.irr_top.specs.Request.{BeginsServed, IsCommand, IsFaultyWord, IsServed}
use Rattle.irr_top.specs.declared.request.Request.TheVariants.{Star, Small, Full, Product, Subduce, Compat, Real, Square, Tensor, Site, Check, Gen}

served_command : (words : List (List ℕ)) (c : Command) → AreWords words c → IsServed c → IsCommand words
served_command words (commands.Star k) a v = (Star k, a)
served_command words (commands.Small k) a v = (Small k, a)
served_command words (commands.Full k) a v = (Full k, a)
served_command words (commands.Real k) a v = (Real k, a)
served_command words (commands.Product k l) a v = (Product k l, a)
served_command words (commands.Subduce k) a v = (Subduce k, a)
served_command words (commands.Compat k l m) a v = (Compat k l m, a)
served_command words (commands.Square k) a v = (Square k, a)
served_command words (commands.Tensor f) a v = (Tensor f, a)
served_command words (commands.Site x k) a v = (Site x k, a)
served_command words commands.Check a v = (Check, a)
served_command words (commands.Gen n) a v = (Gen n, a)

-- the words of the commands that are served

same : List ℕ → List ℕ → Bool
same = pointwise nat_eq

is_served : List ℕ → Bool
is_served w = if same w (codes "star") then true else (if same w (codes "small") then true else (if same w (codes "full") then true
    else (if same w (codes "product") then true else (if same w (codes "compat") then true else (if same w (codes "real") then true
    else (if same w (codes "square") then true else (if same w (codes "tensor") then true else (if same w (codes "site") then true
    else (if same w (codes "check") then true else (if same w (codes "gen") then true else (if same w (codes "subduce") then true else false)))))))))))

served_word : (w : List ℕ) (ws : List (List ℕ)) → BeginsServed (w ∷ ws) → is_served w ≡ true
unfolding is_served same
served_word w ws (inl e) = ap is_served e
served_word w ws (inr (inl e)) = ap is_served e
served_word w ws (inr (inr (inl e))) = ap is_served e
served_word w ws (inr (inr (inr (inl e)))) = ap is_served e
served_word w ws (inr (inr (inr (inr (inl e))))) = ap is_served e
served_word w ws (inr (inr (inr (inr (inr (inl e)))))) = ap is_served e
served_word w ws (inr (inr (inr (inr (inr (inr (inl e))))))) = ap is_served e
served_word w ws (inr (inr (inr (inr (inr (inr (inr (inl e)))))))) = ap is_served e
served_word w ws (inr (inr (inr (inr (inr (inr (inr (inr (inl e))))))))) = ap is_served e
served_word w ws (inr (inr (inr (inr (inr (inr (inr (inr (inr (inl e)))))))))) = ap is_served e
served_word w ws (inr (inr (inr (inr (inr (inr (inr (inr (inr (inr (inl e))))))))))) = ap is_served e
served_word w ws (inr (inr (inr (inr (inr (inr (inr (inr (inr (inr (inr e))))))))))) = ap is_served e

served_verb : (c : Command) → is_served (verb_word (verb_of c)) ≡ true → IsServed c
unfolding is_served same
served_verb (commands.Star k) e = tt
served_verb (commands.Small k) e = tt
served_verb (commands.Full k) e = tt
served_verb (commands.Real k) e = tt
served_verb (commands.Product k l) e = tt
served_verb (commands.Subduce k) e = tt
served_verb (commands.Compat k l m) e = tt
served_verb (commands.Square k) e = tt
served_verb (commands.Tensor f) e = tt
served_verb (commands.Site x k) e = tt
served_verb commands.Check e = tt
served_verb (commands.Gen n) e = tt

any_command : (words : List (List ℕ)) → IsCommand words → IsAnyCommand words
any_command words (Star k, a) = (commands.Star k, a)
any_command words (Small k, a) = (commands.Small k, a)
any_command words (Full k, a) = (commands.Full k, a)
any_command words (Product k l, a) = (commands.Product k l, a)
any_command words (Subduce k, a) = (commands.Subduce k, a)
any_command words (Compat k l m, a) = (commands.Compat k l m, a)
any_command words (Real k, a) = (commands.Real k, a)
any_command words (Square k, a) = (commands.Square k, a)
any_command words (Tensor f, a) = (commands.Tensor f, a)
any_command words (Site x k, a) = (commands.Site x k, a)
any_command words (Check, a) = (commands.Check, a)
any_command words (Gen n, a) = (commands.Gen n, a)

-- the first word of a command is that of its verb
first_word : (first : List ℕ) (ws : List (List ℕ)) (c : Command) → AreWords (first ∷ ws) c → first ≡ verb_word (verb_of c)
first_word first ws c a = let e : first ∷ ws ≡ verb_word (verb_of c) ∷ a.behind = a.spelled in cc

begins : (words : List (List ℕ)) → IsCommand words → BeginsServed words
begins [] (Star k, a) = let e : [] ≡ codes "star" ∷ a.behind = a.spelled in cc
begins [] (Small k, a) = let e : [] ≡ codes "small" ∷ a.behind = a.spelled in cc
begins [] (Full k, a) = let e : [] ≡ codes "full" ∷ a.behind = a.spelled in cc
begins [] (Product k l, a) = let e : [] ≡ codes "product" ∷ a.behind = a.spelled in cc
begins [] (Subduce k, a) = let e : [] ≡ codes "subduce" ∷ a.behind = a.spelled in cc
begins [] (Compat k l m, a) = let e : [] ≡ codes "compat" ∷ a.behind = a.spelled in cc
begins [] (Real k, a) = let e : [] ≡ codes "real" ∷ a.behind = a.spelled in cc
begins [] (Square k, a) = let e : [] ≡ codes "square" ∷ a.behind = a.spelled in cc
begins [] (Tensor f, a) = let e : [] ≡ codes "tensor" ∷ a.behind = a.spelled in cc
begins [] (Site x k, a) = let e : [] ≡ codes "site" ∷ a.behind = a.spelled in cc
begins [] (Check, a) = let e : [] ≡ codes "check" ∷ a.behind = a.spelled in cc
begins [] (Gen n, a) = let e : [] ≡ codes "gen" ∷ a.behind = a.spelled in cc
begins (first ∷ ws) (Star k, a) = inl (first_word first ws (commands.Star k) a)
begins (first ∷ ws) (Small k, a) = inr (inl (first_word first ws (commands.Small k) a))
begins (first ∷ ws) (Full k, a) = inr (inr (inl (first_word first ws (commands.Full k) a)))
begins (first ∷ ws) (Product k l, a) = inr (inr (inr (inl (first_word first ws (commands.Product k l) a))))
begins (first ∷ ws) (Compat k l m, a) = inr (inr (inr (inr (inl (first_word first ws (commands.Compat k l m) a)))))
begins (first ∷ ws) (Real k, a) = inr (inr (inr (inr (inr (inl (first_word first ws (commands.Real k) a))))))
begins (first ∷ ws) (Square k, a) = inr (inr (inr (inr (inr (inr (inl (first_word first ws (commands.Square k) a)))))))
begins (first ∷ ws) (Tensor f, a) = inr (inr (inr (inr (inr (inr (inr (inl (first_word first ws (commands.Tensor f) a))))))))
begins (first ∷ ws) (Site x k, a) = inr (inr (inr (inr (inr (inr (inr (inr (inl (first_word first ws (commands.Site x k) a)))))))))
begins (first ∷ ws) (Check, a) = inr (inr (inr (inr (inr (inr (inr (inr (inr (inl (first_word first ws commands.Check a))))))))))
begins (first ∷ ws) (Gen n, a) = inr (inr (inr (inr (inr (inr (inr (inr (inr (inr (inl (first_word first ws (commands.Gen n) a)))))))))))
begins (first ∷ ws) (Subduce k, a) = inr (inr (inr (inr (inr (inr (inr (inr (inr (inr (inr (first_word first ws (commands.Subduce k) a)))))))))))

served_first : (first : List ℕ) (ws : List (List ℕ)) (c : Command) → BeginsServed (first ∷ ws) → AreWords (first ∷ ws) c → IsServed c
served_first first ws c b a = served_verb c (ap is_served (sym (first_word first ws c a)) ∙ served_word first ws b)

some_command : IsCommand (codes "star" ∷ codes "0,0,0" ∷ [])
some_command = (Star zero_wave, record { behind = codes "0,0,0" ∷ []; spelled = refl; are_arguments = (zero-text, tt) })

begins_none : BeginsIn IsCommand []
begins_none = (codes "star" ∷ codes "0,0,0" ∷ [], some_command)

pub faulty_unserved : (words : List (List ℕ)) → ¬ (BeginsServed words) → IsFaultyWord words 1
faulty_unserved words n = record {
  no_command = λ h. n (begins words h);
  right = 0;
  is_place = record { within = omega arith; begins = begins_none; longest = longest words n };
  is_next = refl;
}
  where
    longest : (ws : List (List ℕ)) → ¬ (BeginsServed ws) → (m : ℕ) → m ≤ length ws → BeginsIn IsCommand (take m ws) → m ≤ 0
    longest ws f zero l b = omega arith
    longest [] f (suc m) l b = absurd (omega (arith, l))
    longest (first ∷ ws) f (suc m) l b = absurd (f (begins (first ∷ (take m ws ++ b.0)) b.1))

pub faulty_served : (words : List (List ℕ)) (n : ℕ) → BeginsServed words → IsFaulty IsAnyCommand words n → IsFaultyWord words n
faulty_served [] n s f = absurd s
faulty_served (first ∷ ws) n s f = record {
  no_command = λ h. f.no_command (any_command (first ∷ ws) h);
  right = f.right;
  is_place = record {
    within = f.is_place.within;
    begins = front f.right f.is_place.begins;
    longest = λ m l b. f.is_place.longest m l (b.0, any_command (take m (first ∷ ws) ++ b.0) b.1);
  };
  is_next = f.is_next;
}
  where
    front : (m : ℕ) → BeginsIn IsAnyCommand (take m (first ∷ ws)) → BeginsIn IsCommand (take m (first ∷ ws))
    front zero b = begins_none
    front (suc m) b = (b.0, served_command (first ∷ (take m ws ++ b.0)) b.1.0 b.1.1 (served_first first (take m ws ++ b.0) b.1.0 s b.1.1))

-- the words of a command that is not served
pub unserved_first : (words : List (List ℕ)) (c : Command) → AreWords words c → ¬ (IsServed c) → ¬ (BeginsServed words)
unserved_first [] c a n s = s
unserved_first (first ∷ ws) c a n s = n (served_first first ws c s a)
