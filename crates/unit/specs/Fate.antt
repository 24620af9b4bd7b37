-- The numbers a caller gets (document 01, 'Numbers a caller gets', 'Reading a packet' and 'Fields').
use Rattle.std.specs.Prelude.{ℕ, Bool, cond, is_ok, Option, Some, None, Result, Ok, Err}
use Rattle.packets.specs.Reading.{number_of}
use Rattle.unit.specs.declared.fate.Offence.{Offence}
use Rattle.unit.specs.declared.fate.Offence.TheVariants.{UnusedCode, WrongKey, DataCrc, EarlyEop, TooMuchData, EndedByEep, VerifyOverrun}
use Rattle.unit.specs.declared.fate.Offence.TheVariants.{NotAuthorised, RmwLength, WrongAddress, NotOwner, NoSuchField, ReadOnlyField, PlainDeviceId}
use Rattle.unit.specs.declared.fate.Fate.{Fate}
use Rattle.unit.specs.declared.fate.Fate.TheVariants.{TimeChanged, Unusable, NoSuchLink, NoRoom, Unread, TimeThrownAway, NotObeyed, Obeyed, TimeTaken, Replied}

-- Obeyed, or refused by a check.
abbrev pub Status : Type 0
Status = Result Unit Offence

-- Document 01's number of each status. 1 isn't used.
abbrev pub offence_byte : Offence → ℕ
offence_byte UnusedCode = 2
offence_byte WrongKey = 3
offence_byte DataCrc = 4
offence_byte EarlyEop = 5
offence_byte TooMuchData = 6
offence_byte EndedByEep = 7
offence_byte VerifyOverrun = 9
offence_byte NotAuthorised = 10
offence_byte RmwLength = 11
offence_byte WrongAddress = 12
offence_byte NotOwner = 0xF0
offence_byte NoSuchField = 0xF1
offence_byte ReadOnlyField = 0xF2
offence_byte PlainDeviceId = 0xF3

abbrev pub byte_of : Status → ℕ
byte_of (Ok done) = 0
byte_of (Err offence) = offence_byte offence

abbrev pub is_success : Status → Bool
is_success = is_ok

-- Checks in their order: the first that is not passed decides.
abbrev pub or_else : Status → Status → Status
or_else s t = cond (is_success s) t s

-- Document 01's number of each fate.
abbrev pub fate_number : Fate → ℕ
fate_number TimeChanged = 0
fate_number Unusable = 1
fate_number NoSuchLink = 2
fate_number NoRoom = 3
fate_number (Unread why) = number_of why
fate_number TimeThrownAway = 16
fate_number (NotObeyed s) = 17
fate_number Obeyed = 18
fate_number TimeTaken = 19
fate_number (Replied s) = 20

-- 17, 18 (status 0) and 20 carry a status, the others none.
abbrev pub fate_status : Fate → Option ℕ
fate_status TimeChanged = None
fate_status Unusable = None
fate_status NoSuchLink = None
fate_status NoRoom = None
fate_status (Unread why) = None
fate_status TimeThrownAway = None
fate_status (NotObeyed s) = Some (byte_of s)
fate_status Obeyed = Some 0
fate_status TimeTaken = None
fate_status (Replied s) = Some (byte_of s)
