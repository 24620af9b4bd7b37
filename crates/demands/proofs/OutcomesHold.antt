-- Outcomes are determined: no function has a `requires`, and each promise has equations for the result and for each lent buffer, or one for them all.
use mathlib.Core.Path.{◌≡◌, refl, ap, sym, ◌∙◌}
use mathlib.Core.Bool.{false≢true}
use Rattle.std.specs.Prelude.{Result, Ok, Err, is_ok}
use Rattle.octets.specs.declared.copies.NoRoom.{NoRoom}
use Rattle.unit.specs.Calls.{Outcome}
use Rattle.demands.specs.Outcomes.{OctetsDetermined, PacketsDetermined, UnitDetermined, RecordsDetermined, TerminalDetermined, ScriptDetermined}
use Rattle.demands.specs.Outcomes.{OctetsAskNothing, PacketsAskNothing, UnitAsksNothing, RecordsAskNothing, TerminalAsksNothing, ScriptAsksNothing}

-- Ok and one refusal: whether it is Ok says which.
one_answer : (z z' : Result Unit NoRoom) → is_ok z ≡ is_ok z' → z ≡ z'
one_answer (Ok x) (Ok y) e = refl
one_answer (Ok x) (Err y) e = absurd (false≢true (sym e))
one_answer (Err x) (Ok y) e = absurd (false≢true e)
one_answer (Err x) (Err y) e = refl

pub octets_determined : OctetsDetermined
octets_determined = (
  λ κs a z z' e e' p q. p ∙ sym q,
  λ κs a z z' e e' p q. p ∙ sym q,
  λ κs a z z' e e' p q. p ∙ sym q,
  λ κs a z z' e e' p q. one_answer z z' (p.0 ∙ sym q.0),
  λ κs a z z' e e' p q. p.1 ∙ sym q.1,
  λ κs a z z' e e' p q. p ∙ sym q,
  λ κs a z z' e e' p q. p ∙ sym q,
  λ κs a z z' e e' p q. p ∙ sym q,
  λ κs a z z' e e' p q. p ∙ sym q,
  λ κs a z z' e e' p q. p ∙ sym q,
  λ κs a z z' e e' p q. p ∙ sym q,
  λ κs a z z' e e' p q. p ∙ sym q,
  λ κs a z z' e e' p q. p ∙ sym q,
  λ κs a z z' e e' p q. p ∙ sym q,
  λ κs a z z' e e' p q. p ∙ sym q,
  λ κs a z z' e e' p q. one_answer z z' (p.0 ∙ sym q.0),
  λ κs a z z' e e' p q. p.1 ∙ sym q.1,
  λ κs a z z' e e' p q. one_answer z z' (p.0 ∙ sym q.0),
  λ κs a z z' e e' p q. p.1 ∙ sym q.1,
  λ κs a z z' e e' p q. one_answer z z' (p.0 ∙ sym q.0),
  λ κs a z z' e e' p q. p.1 ∙ sym q.1,
)

pub packets_determined : PacketsDetermined
packets_determined = (
  λ κs a z z' e e' p q. p ∙ sym q,
  λ κs a z z' e e' p q. p ∙ sym q,
  λ κs a z z' e e' p q. p ∙ sym q,
  λ κs a z z' e e' p q. p ∙ sym q,
  λ κs a z z' e e' p q. p ∙ sym q,
  λ κs a z z' e e' p q. p ∙ sym q,
  λ κs a z z' e e' p q. p ∙ sym q,
  λ κs a z z' e e' p q. p ∙ sym q,
  λ κs a z z' e e' p q. p ∙ sym q,
  λ κs a z z' e e' p q. p ∙ sym q,
  λ κs a z z' e e' p q. p ∙ sym q,
  λ κs a z z' e e' p q. p ∙ sym q,
  λ κs a z z' e e' p q. p ∙ sym q,
  λ κs a z z' e e' p q. p ∙ sym q,
  λ κs a z z' e e' p q. p ∙ sym q,
  λ κs a z z' e e' p q. p.0 ∙ sym q.0,
  λ κs a z z' e e' p q. p ∙ sym q,
  λ κs a z z' e e' p q. p ∙ sym q,
  λ κs a z z' e e' p q. p ∙ sym q,
  λ κs a z z' e e' p q. p ∙ sym q,
  λ κs a z z' e e' p q. p ∙ sym q,
  λ κs a z z' e e' p q. one_answer z z' (p.0 ∙ sym q.0),
  λ κs a z z' e e' p q. p.1 ∙ sym q.1,
  λ κs a z z' e e' p q. p ∙ sym q,
  λ κs a z z' e e' p q. p ∙ sym q,
  λ κs a z z' e e' p q. p ∙ sym q,
  λ κs a z z' e e' p q. p ∙ sym q,
  λ κs a z z' e e' p q. p ∙ sym q,
  λ κs a z z' e e' p q. p ∙ sym q,
  λ κs a z z' e e' p q. p ∙ sym q,
  λ κs a z z' e e' p q. p ∙ sym q,
  λ κs a z z' e e' p q. p.0 ∙ sym q.0,
  λ κs a z z' e e' p q. p.1 ∙ sym q.1,
)

pub unit_determined : UnitDetermined
unit_determined = (
  λ κs a z z' e e' p q. p ∙ sym q,
  λ κs a z z' e e' p q. p ∙ sym q,
  λ κs a z z' e e' p q. p ∙ sym q,
  λ κs a z z' e e' p q. p ∙ sym q,
  λ κs a z z' e e' p q. p ∙ sym q,
  λ κs a z z' e e' p q. ap (λ (o : Outcome). o.answer) (p ∙ sym q),
  λ κs a z z' e e' p q. ap (λ (o : Outcome). o.memory) (p ∙ sym q),
  λ κs a z z' e e' p q. ap (λ (o : Outcome). o.reply) (p ∙ sym q),
  λ κs a z z' e e' p q. p ∙ sym q,
  λ κs a z z' e e' p q. p ∙ sym q,
)

pub records_determined : RecordsDetermined
records_determined = (
  λ κs a z z' e e' p q. p ∙ sym q,
  λ κs a z z' e e' p q. p ∙ sym q,
  λ κs a z z' e e' p q. p ∙ sym q,
  λ κs a z z' e e' p q. p ∙ sym q,
  λ κs a z z' e e' p q. p.0 ∙ sym q.0,
  λ κs a z z' e e' p q. p.1.1.0 ∙ sym q.1.1.0,
  λ κs a z z' e e' p q. p.1.1.1.0 ∙ sym q.1.1.1.0,
  λ κs a z z' e e' p q. p.1.1.1.1 ∙ sym q.1.1.1.1,
)

pub terminal_determined : TerminalDetermined
terminal_determined = λ κs a z z' e e' p q. p ∙ sym q

pub script_determined : ScriptDetermined
script_determined = (
  λ κs a z z' e e' p q. p.0 ∙ sym q.0,
  λ κs a z z' e e' p q. p.0 ∙ sym q.0,
  λ κs a z z' e e' p q. p ∙ sym q,
  λ κs a z z' e e' p q. p ∙ sym q,
  λ κs a z z' e e' p q. p ∙ sym q,
  λ κs a z z' e e' p q. p ∙ sym q,
  λ κs a z z' e e' p q. p.0 ∙ sym q.0,
  λ κs a z z' e e' p q. p.1.1 ∙ sym q.1.1,
)

pub octets_ask_nothing : OctetsAskNothing
octets_ask_nothing = (λ κs a. tt, λ κs a. tt, λ κs a. tt, λ κs a. tt, λ κs a. tt, λ κs a. tt, λ κs a. tt, λ κs a. tt, λ κs a. tt, λ κs a. tt, λ κs a. tt, λ κs a. tt, λ κs a. tt, λ κs a. tt, λ κs a. tt, λ κs a. tt, λ κs a. tt)

pub packets_ask_nothing : PacketsAskNothing
packets_ask_nothing = (λ κs a. tt, λ κs a. tt, λ κs a. tt, λ κs a. tt, λ κs a. tt, λ κs a. tt, λ κs a. tt, λ κs a. tt, λ κs a. tt, λ κs a. tt, λ κs a. tt, λ κs a. tt, λ κs a. tt, λ κs a. tt, λ κs a. tt, λ κs a. tt, λ κs a. tt, λ κs a. tt, λ κs a. tt, λ κs a. tt, λ κs a. tt, λ κs a. tt, λ κs a. tt, λ κs a. tt, λ κs a. tt, λ κs a. tt, λ κs a. tt, λ κs a. tt, λ κs a. tt, λ κs a. tt, λ κs a. tt)

pub unit_asks_nothing : UnitAsksNothing
unit_asks_nothing = (λ κs a. tt, λ κs a. tt, λ κs a. tt, λ κs a. tt, λ κs a. tt, λ κs a. tt, λ κs a. tt, λ κs a. tt)

pub records_ask_nothing : RecordsAskNothing
records_ask_nothing = (λ κs a. tt, λ κs a. tt, λ κs a. tt, λ κs a. tt, λ κs a. tt)

pub terminal_asks_nothing : TerminalAsksNothing
terminal_asks_nothing = λ κs a. tt

pub script_asks_nothing : ScriptAsksNothing
script_asks_nothing = (λ κs a. tt, λ κs a. tt, λ κs a. tt, λ κs a. tt, λ κs a. tt, λ κs a. tt, λ κs a. tt)
