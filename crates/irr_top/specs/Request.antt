-- The commands that are served.
--   command_of r           the command of a request
--   IsServed c             the command is served
--   IsRequested words r    the words are those of the command
--   IsCommand words        the words are those of a command that is served
--   BeginsServed words     the first word is that of a command that is served
--   IsFaultyWord words n   the n-th word, counted from 1, is the first that no served command has there, or the first
--                          that is missing
--   made_number r          the number of the made input that the request is for; none where it reads an input
--   ReadsInput words       the words are those of a command that reads an input
use Rattle.std.specs.Prelude.{ℕ, ◌≡◌, ◌⊎◌, Option, None, Some, List, [], ◌∷◌, codes}
use Rattle.irr_input.specs.Command.{AreWords, IsFaulty}
use Rattle.irr_input.specs.declared.words.Command.{Command}
use Rattle.irr_input.specs.declared.words.Command.TheVariants as commands
use Rattle.irr_top.specs.declared.request.Request.{Request}
use Rattle.irr_top.specs.declared.request.Request.TheVariants.{Star, Small, Full, Product, Subduce, Compat, Real, Square, Tensor, Site, Check, Gen}

abbrev pub command_of : Request → Command
command_of (Star k) = commands.Star k
command_of (Small k) = commands.Small k
command_of (Full k) = commands.Full k
command_of (Product k l) = commands.Product k l
command_of (Subduce k) = commands.Subduce k
command_of (Compat k l m) = commands.Compat k l m
command_of (Real k) = commands.Real k
command_of (Square k) = commands.Square k
command_of (Tensor f) = commands.Tensor f
command_of (Site x k) = commands.Site x k
command_of Check = commands.Check
command_of (Gen n) = commands.Gen n

abbrev pub IsServed : Command → Type 0
IsServed (commands.Star k) = Unit {0}
IsServed (commands.Small k) = Unit {0}
IsServed (commands.Full k) = Unit {0}
IsServed (commands.Real k) = Unit {0}
IsServed (commands.Product k l) = Unit {0}
IsServed (commands.Subduce k) = Unit {0}
IsServed (commands.Compat k l m) = Unit {0}
IsServed (commands.Square k) = Unit {0}
IsServed (commands.Tensor f) = Unit {0}
IsServed (commands.Site x k) = Unit {0}
IsServed commands.Check = Unit {0}
IsServed (commands.Gen n) = Unit {0}

abbrev pub IsRequested : List (List ℕ) → Request → Type 0
IsRequested words r = AreWords words (command_of r)

abbrev pub IsCommand : List (List ℕ) → Type 0
IsCommand words = (r : Request) × IsRequested words r

abbrev pub BeginsServed : List (List ℕ) → Type 0
BeginsServed [] = ⊥
BeginsServed (w ∷ ws) = (w ≡ codes "star") ⊎ ((w ≡ codes "small") ⊎ ((w ≡ codes "full")
    ⊎ ((w ≡ codes "product") ⊎ ((w ≡ codes "compat") ⊎ ((w ≡ codes "real") ⊎ ((w ≡ codes "square") ⊎ ((w ≡ codes "tensor")
    ⊎ ((w ≡ codes "site") ⊎ ((w ≡ codes "check") ⊎ ((w ≡ codes "gen") ⊎ (w ≡ codes "subduce")))))))))))

abbrev pub IsFaultyWord : List (List ℕ) → ℕ → Type 0
IsFaultyWord words n = IsFaulty IsCommand words n

abbrev pub made_number : Request → Option ℕ
made_number (Star k) = None
made_number (Small k) = None
made_number (Full k) = None
made_number (Product k l) = None
made_number (Subduce k) = None
made_number (Compat k l m) = None
made_number (Real k) = None
made_number (Square k) = None
made_number (Tensor f) = None
made_number (Site x k) = None
made_number Check = None
made_number (Gen n) = Some n

abbrev pub ReadsInput : List (List ℕ) → Type 0
ReadsInput words = (r : Request) × IsRequested words r × (made_number r ≡ None)
