-- The lines of text (document 01, 'Bench program'), as bytes.
use Rattle.std.specs.Prelude.{ℕ, zero, suc, ◌+◌, ◌/◌, ◌%◌, cond, List, [], ◌∷◌, ◌++◌, length, nat_lt, Option, Some, None}
use Prim.Native.Char.{code}
use Prim.Native.String.{String, [] as none, ◌∷◌ as ◌then◌}
use Rattle.unit.specs.Fate.{fate_number, fate_status}
use Rattle.unit.specs.declared.fate.Fate.{Fate}

-- A text as the codes of its characters, which are ASCII here.
abbrev pub ascii : String → List ℕ
ascii none = []
ascii (c then text) = code c ∷ ascii text

-- A digit below 16: '0' to '9', 'a' to 'f'.
abbrev pub glyph : ℕ → ℕ
glyph d = cond (nat_lt d 10) (0x30 + d) (0x57 + d)

-- n in decimal, in the fewest digits, where `most` of them are enough; 20 are for every number below 2^64.
abbrev pub decimal_in : ℕ → ℕ → List ℕ
decimal_in zero n = []
decimal_in (suc most) n = cond (nat_lt n 10) (glyph n ∷ []) (decimal_in most (n / 10) ++ (glyph (n % 10) ∷ []))

unfoldable pub decimal : ℕ → List ℕ
decimal n = decimal_in 20 n

-- A byte in two digits, and bytes one after the other.
abbrev pub hex : ℕ → List ℕ
hex b = glyph (b / 16) ∷ glyph (b % 16) ∷ []

abbrev pub hexes : List ℕ → List ℕ
hexes [] = []
hexes (b ∷ bs) = hex b ++ hexes bs

-- Text with a space behind it, or the end of its line.
abbrev pub spaced : List ℕ → List ℕ
spaced text = text ++ (0x20 ∷ [])

abbrev pub ended : List ℕ → List ℕ
ended text = text ++ (0x0A ∷ [])

-- A status is two digits or '-'.
abbrev pub status_text : Option ℕ → List ℕ
status_text None = 0x2D ∷ []
status_text (Some b) = hex b

-- A reply is its length, then, if that is not 0, a space and its bytes.
abbrev pub reply_text : List ℕ → List ℕ
reply_text [] = decimal 0
reply_text (b ∷ bs) = spaced (decimal (length (b ∷ bs))) ++ hexes (b ∷ bs)

-- The first line.
abbrev pub heading : List ℕ
heading = ended (ascii "item fate status reply")

-- The line of record n.
unfoldable pub record_line : ℕ → Fate → List ℕ → List ℕ
record_line n fate reply =
    spaced (decimal n) ++ spaced (decimal (fate_number fate)) ++ spaced (status_text (fate_status fate)) ++ ended (reply_text reply)

-- The last line: end with the number of records, or bad with an offset.
abbrev pub end_line : ℕ → List ℕ
end_line n = spaced (ascii "end") ++ ended (decimal n)

abbrev pub bad_line : ℕ → List ℕ
bad_line n = spaced (ascii "bad") ++ ended (decimal n)
