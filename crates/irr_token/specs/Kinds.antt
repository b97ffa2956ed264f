-- The kinds of bytes.
--   kind_of c        the kind of the byte c: a blank is a space or a tab, a digit is 0 to 9, any other byte is a mark
--   AreBlanks cs     the bytes cs are blanks
use Rattle.std.specs.Prelude.{ℕ, ◌≡◌, List, [], ◌∷◌, if◌then◌else◌, nat_eq, nat_le, ◌&&◌, ◌||◌}
use Rattle.irr_token.specs.declared.kind.Kind.{Kind}
use Rattle.irr_token.specs.declared.kind.Kind.TheVariants.{Blank, Digit, Mark}

abbrev pub kind_of : ℕ → Kind
kind_of c = if nat_eq c 32 || nat_eq c 9 then Blank else (if nat_le 48 c && nat_le c 57 then Digit else Mark)

abbrev pub AreBlanks : List ℕ → Type 0
AreBlanks [] = Unit {0}
AreBlanks (c ∷ cs) = (kind_of c ≡ Blank) × AreBlanks cs
