-- Worked examples of what a call is judged by and what it leaves, computed by the definitions: worked out by hand from document 01 ('Numbers a caller
-- gets', 'Time').
use Rattle.std.proofs.Common.{◌≡◌, ℕ, ◌-◌, ◌^◌, true, false, List, [], ◌∷◌, ◌++◌, map, replicate, refl, Option, None, Some, Ok, Err}
use Rattle.octets.specs.Crc.{crc, mirrored, bits, remainder, message, modulo}
use Rattle.packets.specs.Reading.{read_protocol, read_packet}
use Rattle.packets.specs.Time.{time_number_of, read_time}
use Rattle.packets.specs.declared.reading.End.TheVariants.{Eop}
use Rattle.packets.specs.declared.reading.Refusal.TheVariants.{Incomplete, UnknownProtocol, ExtendedProtocol, Reply, HeaderCrc}
use Rattle.packets.specs.declared.time.When.TheVariants.{AtOnce}
use Rattle.packets.specs.declared.time.Time.{Time as TheTime}
use Rattle.unit.specs.Fate.{fate_number, fate_status}
use Rattle.unit.specs.Counters.{counted_for}
use Rattle.unit.specs.Clock.{after_time, after_code, after_ticks}
use Rattle.unit.specs.Usable.{usable_unit, usable}
use Rattle.unit.specs.Given.{Lent}
use Rattle.unit.specs.Judge.{time_ruling, is_link, judged, fate_in}
use Rattle.unit.specs.Calls.{take_time_code, take_ticks, done}
use Rattle.unit.specs.declared.fate.Offence.TheVariants.{DataCrc, PlainDeviceId}
use Rattle.unit.specs.declared.fate.Fate.TheVariants.{TimeChanged, Unusable, NoSuchLink, NoRoom, Unread, TimeThrownAway, NotObeyed, Obeyed, TimeTaken, Replied}
use Rattle.unit.specs.declared.judging.Ruling.{Ruling}
use Rattle.unit.specs.declared.judging.Ruling.TheVariants.{Ends, SetsTime}
use Rattle.unit.specs.declared.clock.Elapsed.{Elapsed}
use Rattle.unit.specs.declared.unit.Unit.{Unit as TheUnit}
use Rattle.unit.proofs.ExampleParts.{window, windows, owner, clock, unit}

-- ---- 1: the unit is unusable

-- with so many windows in use: the first fifteen end at 8, the last at 9
abbrev windowed : ℕ → TheUnit
windowed count = unit 0xF0 4 (windows count (replicate 15 (window 0 8 true true) ++ (window 0 9 true true ∷ []))) 0 (owner 0 0 0 0) (clock 0 0 None)

abbrev numbered : ℕ → ℕ → TheUnit
numbered number links = unit number links (windows 0 []) 0 (owner 0 0 0 0) (clock 0 0 None)

abbrev timed : ℕ → ℕ → Option Elapsed → TheUnit
timed last et waiting = unit 0xF0 4 (windows 0 []) 0 (owner 0 0 0 0) (clock last et waiting)

abbrev owned : ℕ → ℕ → TheUnit
owned count link = unit 0xF0 4 (windows 0 []) 0 (owner 5 0x67 count link) (clock 0 0 None)

abbrev waits : ℕ → Option Elapsed
waits et = Some (record { value = et; epoch = 0x9F })

-- each number just right, and just wrong
edges :
    -- over 16 windows
    (map (λ (n : ℕ). usable_unit (windowed n)) (0 ∷ 16 ∷ 17 ∷ []) ≡ true ∷ true ∷ false ∷ [])
    -- time number outside F0 to FE
    × (map (λ (n : ℕ). usable_unit (numbered n 4)) (0xEF ∷ 0xF0 ∷ 0xFE ∷ 0xFF ∷ []) ≡ false ∷ true ∷ true ∷ false ∷ [])
    -- link count not 1 to 31
    × (map (λ (n : ℕ). usable_unit (numbered 0xF0 n)) (0 ∷ 1 ∷ 31 ∷ 32 ∷ []) ≡ false ∷ true ∷ true ∷ false ∷ [])
    -- ET, and a waiting value, at or above 2^56
    × (map (λ (n : ℕ). usable_unit (timed 0 n None)) ((2 ^ 56 - 1) ∷ (2 ^ 56) ∷ []) ≡ true ∷ false ∷ [])
    × (map (λ (n : ℕ). usable_unit (timed 0 0 (waits n))) ((2 ^ 56 - 1) ∷ (2 ^ 56) ∷ []) ≡ true ∷ false ∷ [])
    -- last Time-Code above 63
    × (map (λ (n : ℕ). usable_unit (timed n 0 None)) (63 ∷ 64 ∷ []) ≡ true ∷ false ∷ [])
    -- owner path above 12
    × (map (λ (n : ℕ). usable_unit (owned n 1)) (12 ∷ 13 ∷ []) ≡ true ∷ false ∷ [])
    -- owner link above 31
    × (map (λ (n : ℕ). usable_unit (owned 0 n)) (0 ∷ 31 ∷ 32 ∷ []) ≡ true ∷ true ∷ false ∷ [])
unfolding usable_unit
edges = (refl, refl, refl, refl, refl, refl, refl, refl)

memories :
    -- memory length 0 or above 65,536
    (map (usable (windowed 0)) (0 ∷ 1 ∷ 65536 ∷ 65537 ∷ []) ≡ false ∷ true ∷ true ∷ false ∷ [])
    -- a window whose end is past the memory: one, and the last of sixteen
    × (map (usable (windowed 1)) (7 ∷ 8 ∷ []) ≡ false ∷ true ∷ [])
    × (map (usable (windowed 16)) (8 ∷ 9 ∷ []) ≡ false ∷ true ∷ [])
    -- one that is not in use may
    × (usable (windowed 15) 8 ≡ true)
    -- the other causes too
    × (usable (numbered 0xEF 4) 8 ≡ false)
unfolding usable usable_unit
memories = (refl, refl, refl, refl, refl)

-- ---- 2, and what goes before what

-- of 4 links: link 0 or above the link count
links : map (is_link (numbered 0xF0 4)) (0 ∷ 1 ∷ 4 ∷ 5 ∷ []) ≡ false ∷ true ∷ true ∷ false ∷ []
links = refl

-- with 8 bytes of memory, and no room for a reply
abbrev comes_to : TheUnit → ℕ → List ℕ → Ruling
comes_to u link packet = judged u (record { packet = packet; end = Eop; link = link }) (record { memory = 8; reply = 0 })

-- the empty packet is incomplete; 2 goes before that, 1 before 2
precedence :
    (comes_to (numbered 0xF0 4) 1 [] ≡ Ends (Unread Incomplete))
    × (comes_to (numbered 0xF0 4) 5 [] ≡ Ends NoSuchLink)
    × (comes_to (numbered 0xEF 4) 5 [] ≡ Ends Unusable)
unfolding judged usable usable_unit read_packet
precedence = (refl, refl, refl)

-- ---- time packets

-- 16 thrown away, 19 taken
time_fates : (r : Option TheTime) → fate_number (fate_in (time_ruling r)) ≡ time_number_of r
time_fates None = refl
time_fates (Some t) = refl

-- 19: the time is changed, and what is lent is left
time_taken : (t : TheTime) (u : TheUnit) (bytes : List ℕ) (link : ℕ) (lent : Lent)
    → ((done (SetsTime t) u bytes link lent).answer.unit.clock ≡ after_time u.clock t)
    × ((done (SetsTime t) u bytes link lent).memory ≡ lent.memory)
    × ((done (SetsTime t) u bytes link lent).reply ≡ lent.reply)
time_taken t u bytes link lent = (refl, refl, refl)

-- to a unit with time number F3 and address 43
times :
    -- another time number is an unknown protocol
    (comes_to (numbered 0xF3 4) 1 (0x43 ∷ 0xF0 ∷ []) ≡ Ends (Unread UnknownProtocol))
    -- ours, but of two bytes
    × (comes_to (numbered 0xF3 4) 1 (0x43 ∷ 0xF3 ∷ []) ≡ Ends TimeThrownAway)
    -- to its address; and to another
    × (comes_to (numbered 0xF3 4) 1 (0x43 ∷ 0xF3 ∷ 0x9F ∷ 0x01 ∷ 0x00 ∷ 0x00 ∷ 0x00 ∷ 0x07 ∷ 0x40 ∷ 0x00 ∷ 0x00 ∷ 0x93 ∷ [])
    ≡ SetsTime (record { epoch = 0x9F; when = AtOnce; value = 0x00000007400000 }))
    × (comes_to (numbered 0xF3 4) 1 (0x44 ∷ 0xF3 ∷ 0x9F ∷ 0x01 ∷ 0x00 ∷ 0x00 ∷ 0x00 ∷ 0x07 ∷ 0x40 ∷ 0x00 ∷ 0x00 ∷ 0x1A ∷ []) ≡ Ends TimeThrownAway)
unfolding judged usable usable_unit read_packet read_protocol read_time crc mirrored bits remainder message modulo
times = (refl, refl, refl, refl)

-- ---- Time-Codes

-- of a Time-Code the low six bits count
code_bits : map (λ (byte : ℕ). (take_time_code (timed 5 0 None) byte).unit.clock.last) (0x3F ∷ 0x40 ∷ 0xBF ∷ 0xC6 ∷ []) ≡ 63 ∷ 0 ∷ 63 ∷ 6 ∷ []
unfolding take_time_code usable_unit after_code
code_bits = refl

-- 0, with the time changed; or 1, with nothing changed
small_fates :
    (take_time_code (timed 5 0 None) 6 ≡ record { unit = timed 6 0x180000 None; fate = TimeChanged; length = 0 })
    × (take_ticks (timed 5 1 None) 0xFFFFFFFF ≡ record { unit = timed 5 0x100000000 None; fate = TimeChanged; length = 0 })
    -- what waits waits on
    × (take_time_code (timed 5 0 (waits 9)) 6 ≡ record { unit = timed 6 0x180000 (waits 9); fate = TimeChanged; length = 0 })
    × (take_ticks (timed 5 1 (waits 9)) 2 ≡ record { unit = timed 5 3 (waits 9); fate = TimeChanged; length = 0 })
    -- 1
    × (take_time_code (timed 64 0 None) 6 ≡ record { unit = timed 64 0 None; fate = Unusable; length = 0 })
    × (take_ticks (timed 64 0 None) 6 ≡ record { unit = timed 64 0 None; fate = Unusable; length = 0 })
    -- whatever a memory would have to be
    × ((take_ticks (unit 0xF0 4 (windows 1 (window 0 65537 true true ∷ [])) 0 (owner 0 0 0 0) (clock 0 0 None)) 1).fate ≡ TimeChanged)
unfolding take_time_code take_ticks usable_unit after_code after_ticks
small_fates = (refl, refl, refl, refl, refl, refl, refl)

-- ---- counters and statuses

-- 11 is counted in the first and 20 in the tenth, both in the total; what is below 11 in none
counted :
    (counted_for (Unread Incomplete) (replicate 11 7) ≡ 8 ∷ 7 ∷ 7 ∷ 7 ∷ 7 ∷ 7 ∷ 7 ∷ 7 ∷ 7 ∷ 7 ∷ 8 ∷ [])
    × (counted_for (Replied (Ok tt)) (replicate 11 7) ≡ 7 ∷ 7 ∷ 7 ∷ 7 ∷ 7 ∷ 7 ∷ 7 ∷ 7 ∷ 7 ∷ 8 ∷ 8 ∷ [])
    × (counted_for NoRoom (replicate 11 7) ≡ replicate 11 7)
unfolding counted_for
counted = (refl, refl, refl)

-- 17, 18 (status 0) and 20 carry a status, the others none
told :
    (map fate_status (NotObeyed (Err DataCrc) ∷ Obeyed ∷ Replied (Ok tt) ∷ Replied (Err PlainDeviceId) ∷ []) ≡ Some 4 ∷ Some 0 ∷ Some 0 ∷ Some 0xF3 ∷ [])
    × (map fate_status
    (TimeChanged ∷ Unusable ∷ NoSuchLink ∷ NoRoom ∷ Unread Incomplete ∷ Unread UnknownProtocol ∷ Unread ExtendedProtocol ∷ Unread Reply ∷ Unread HeaderCrc
    ∷ TimeThrownAway ∷ TimeTaken ∷ [])
    ≡ replicate 11 None)
told = (refl, refl)
