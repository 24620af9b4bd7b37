-- Laws of statuses and fates.
use Rattle.std.proofs.Common.{◌≡◌, ◌≤◌, Bool, true, false, cond, eqb, sym, refl, ◌∙◌, arith, Ok, Err}
use mathlib.Core.Bool.{false≢true}
use Rattle.packets.specs.Reading.{number_of}
use Rattle.packets.specs.declared.reading.Refusal.{Refusal}
use Rattle.packets.specs.declared.reading.Refusal.TheVariants.{Incomplete, UnknownProtocol, ExtendedProtocol, Reply, HeaderCrc}
use Rattle.unit.specs.Fate.{Status, offence_byte, byte_of, is_success, or_else, fate_number}
use Rattle.unit.specs.declared.fate.Offence.{Offence}
use Rattle.unit.specs.declared.fate.Offence.TheVariants.{UnusedCode, WrongKey, DataCrc, EarlyEop, TooMuchData, EndedByEep, VerifyOverrun}
use Rattle.unit.specs.declared.fate.Offence.TheVariants.{NotAuthorised, RmwLength, WrongAddress, NotOwner, NoSuchField, ReadOnlyField, PlainDeviceId}
use Rattle.unit.specs.declared.fate.Fate.{Fate}
use Rattle.unit.specs.declared.fate.Fate.TheVariants.{TimeChanged, Unusable, NoSuchLink, NoRoom, Unread, TimeThrownAway, NotObeyed, Obeyed, TimeTaken, Replied}

-- ---- a refusal has a number from 11 to 15, and no fate one above 20

pub unread_number : (why : Refusal) → (11 ≤ number_of why) × (number_of why ≤ 15)
unread_number Incomplete = (omega arith, omega arith)
unread_number UnknownProtocol = (omega arith, omega arith)
unread_number ExtendedProtocol = (omega arith, omega arith)
unread_number Reply = (omega arith, omega arith)
unread_number HeaderCrc = (omega arith, omega arith)

pub fate_most : (fate : Fate) → fate_number fate ≤ 20
fate_most TimeChanged = omega arith
fate_most Unusable = omega arith
fate_most NoSuchLink = omega arith
fate_most NoRoom = omega arith
fate_most (Unread why) = omega (arith, (unread_number why).1)
fate_most TimeThrownAway = omega arith
fate_most (NotObeyed s) = omega arith
fate_most Obeyed = omega arith
fate_most TimeTaken = omega arith
fate_most (Replied s) = omega arith

-- ---- the status 0 is success's alone

offends : (offence : Offence) → eqb (offence_byte offence) 0 ≡ false
offends UnusedCode = refl
offends WrongKey = refl
offends DataCrc = refl
offends EarlyEop = refl
offends TooMuchData = refl
offends EndedByEep = refl
offends VerifyOverrun = refl
offends NotAuthorised = refl
offends RmwLength = refl
offends WrongAddress = refl
offends NotOwner = refl
offends NoSuchField = refl
offends ReadOnlyField = refl
offends PlainDeviceId = refl

pub success_byte : (s : Status) → is_success s ≡ eqb (byte_of s) 0
success_byte (Ok done) = refl
success_byte (Err offence) = sym (offends offence)

-- ---- a check that refuses, and the checks behind it

pub passed : (t : Bool) (s rest : Status) → is_success s ≡ false → is_success (cond t s rest) ≡ true → (t ≡ false) × (is_success rest ≡ true)
passed true s rest e h = absurd (false≢true (sym e ∙ h))
passed false s rest e h = (refl, h)

pub or_else_law : (s t : Status) → is_success (or_else s t) ≡ true → (is_success s ≡ true) × (is_success t ≡ true)
or_else_law s t h = go (is_success s) refl
  where
    go : (b : Bool) → is_success s ≡ b → (is_success s ≡ true) × (is_success t ≡ true)
    go true e = (e, rw e at h)
    go false e = absurd (false≢true (sym e ∙ rw e at h))
