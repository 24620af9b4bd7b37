-- Demand 3: two lists of RMAP commands, merged (document 01, 'Span' and 'What a promise has to say').
use Rattle.std.specs.Prelude.{◌≡◌, Bool, true, false, not, ◌&&◌, ◌||◌, List, [], ◌∷◌, ℕ, ◌+◌, leb, ltb, get_or, Option, Some, None, Result, Ok, Err}
use Rattle.packets.specs.Instruction.{is_write, is_rmw}
use Rattle.packets.specs.Header.{kind_in}
use Rattle.packets.specs.declared.header.Header.{Header}
use Rattle.packets.specs.declared.reading.Packet.{Packet}
use Rattle.packets.specs.declared.reading.Refusal.{Refusal}
use Rattle.packets.specs.declared.reading.Packet.TheVariants.{Time, Command}
use Rattle.unit.specs.Some.{some}
use Rattle.unit.specs.Fate.{fate_status}
use Rattle.unit.specs.Given.{Arrived, Lent}
use Rattle.unit.specs.Decide.{span_size}
use Rattle.unit.specs.Calls.{Outcome}
use Rattle.unit.specs.declared.fate.Fate.{Fate}
use Rattle.unit.specs.declared.unit.Unit.{Unit as TheUnit}
use Rattle.demands.specs.Terminal.{Terminal, ours, read_of, Every}

-- ---- merging

-- From which of two lists each comes.
pub data Side : Type 0 where
  one : Side
  other : Side

-- The last list is the two before it, merged so that each keeps its order; the pattern says how. One pattern merges the commands and what
-- is heard of them.
pub data Merge {A : Type 0} : List Side → List A → List A → List A → Type 0 where
  neither : Merge [] [] [] []
  from_one : {pattern : List Side} {x : A} {xs ys zs : List A} → Merge pattern xs ys zs → Merge (one ∷ pattern) (x ∷ xs) ys (x ∷ zs)
  from_other : {pattern : List Side} {y : A} {xs ys zs : List A} → Merge pattern xs ys zs → Merge (other ∷ pattern) xs (y ∷ ys) (y ∷ zs)

-- ---- a list of commands

-- A command on its way: what arrives of it, and the reply buffer that is lent for it, of its own length and contents.
pub record Sent : Type 0 where
  pub arrived : Arrived
  pub buffer : List ℕ

-- RMAP: the protocol is 01, and that is the second byte as it arrived.
abbrev pub Rmap : Sent → Type 0
Rmap c = get_or c.arrived.packet 1 0 ≡ 0x01

-- A unit, and the memory that is lent to it from command to command.
pub record State : Type 0 where
  pub unit : TheUnit
  pub memory : List ℕ

-- What is lent for a command: that memory, and its reply buffer.
abbrev pub lent_for : Sent → List ℕ → Lent
lent_for c m = record { memory = m; reply = c.buffer }

abbrev pub outcome_of : Terminal → State → Sent → Outcome
outcome_of t s c = t.packet s.unit c.arrived (lent_for c s.memory)

-- What is heard of a command: its fate, with the status, the length of the reply, and the reply buffer.
pub record Heard : Type 0 where
  pub fate : Fate
  pub length : ℕ
  pub buffer : List ℕ

abbrev pub heard_of : Terminal → State → Sent → Heard
heard_of t s c = record {
  fate = (outcome_of t s c).answer.fate;
  length = (outcome_of t s c).answer.length;
  buffer = (outcome_of t s c).reply;
}

abbrev pub next_of : Terminal → State → Sent → State
next_of t s c = record { unit = (outcome_of t s c).answer.unit; memory = (outcome_of t s c).memory }

-- What is heard of each of a list, and the state at its end.
unfoldable pub heard : Terminal → State → List Sent → List Heard
heard t s [] = []
heard t s (c ∷ cs) = heard_of t s c ∷ heard t (next_of t s c) cs

unfoldable pub ends : Terminal → State → List Sent → State
ends t s [] = s
ends t s (c ∷ cs) = ends t (next_of t s c) cs

-- ---- what a command refers to

-- Given no status, or refused with a status from 2 to 12 other than 4 to 7: no byte. (F0 to F3 are plug-and-play's.)
abbrev pub refers_to_none : Option ℕ → Bool
refers_to_none None = true
refers_to_none (Some status) = leb 2 status && leb status 12 && not (leb 4 status && leb status 7)

-- The span: from A on, as many bytes as its size.
abbrev pub in_span : Header → ℕ → Bool
in_span h i = leb h.address i && ltb i (h.address + span_size h)

abbrev pub span_of : Result Packet Refusal → ℕ → Bool
span_of (Err why) i = false
span_of (Ok Time) i = false
span_of (Ok (Command c)) i = in_span c.header i

-- Whether a command refers to byte i. Its fate is the one that it has in the state s; that it has the same one later in a list, alone or merged, is
-- part of what is shown.
unfoldable pub refers : State → Sent → ℕ → Bool
refers s c i =
    not (refers_to_none (fate_status (outcome_of ours s c).answer.fate)) && span_of (read_of s.unit c.arrived) i

-- Whether it is a write or an RMW that refers to byte i.
abbrev pub is_store : Result Packet Refusal → Bool
is_store (Err why) = false
is_store (Ok Time) = false
is_store (Ok (Command c)) = is_write c.header.instruction || is_rmw (kind_in c.header)

unfoldable pub stores : State → Sent → ℕ → Bool
stores s c i = is_store (read_of s.unit c.arrived) && refers s c i

-- No byte that a write or an RMW of one list refers to is referred to by any command of the other.
abbrev pub Clear : State → List Sent → List Sent → Type 0
Clear s xs ys = (i : ℕ) → some (λ c. stores s c i) xs ≡ true → some (λ c. refers s c i) ys ≡ false

abbrev pub Apart : State → List Sent → List Sent → Type 0
Apart s xs ys = Clear s xs ys × Clear s ys xs

-- ---- the demand

-- However the lists are merged, of every command is heard what is heard of it when its list comes by itself.
abbrev pub EachAsAlone : Terminal → State → List Sent → List Sent → Type 0
EachAsAlone t s xs ys =
    (pattern : List Side) (zs : List Sent) → Merge pattern xs ys zs → Merge pattern (heard t s xs) (heard t s ys) (heard t s zs)

-- All merges end with one memory and one unit, its counts with it.
abbrev pub OneEnd : Terminal → State → List Sent → List Sent → Type 0
OneEnd t s xs ys =
    (pattern pattern' : List Side) (zs zs' : List Sent) → Merge pattern xs ys zs → Merge pattern' xs ys zs' → ends t s zs ≡ ends t s zs'

-- Both, for lists of any length, of RMAP commands that are apart. The unit need not be usable: if it is not, each gets 1 and nothing changes.
abbrev pub Merges : Terminal → Type 0
Merges t =
    (s : State) (xs ys : List Sent) → Every Rmap xs → Every Rmap ys → Apart s xs ys → EachAsAlone t s xs ys × OneEnd t s xs ys
