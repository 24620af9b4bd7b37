-- Laws of plans: the places that a planned action speaks of are there, and its reply has room with what is gathered into it.
use Rattle.std.proofs.Common.{◌≡◌, ℕ, ◌+◌, ◌/◌, ◌%◌, ◌^◌, ◌<◌, ◌≤◌, min, Bool, true, false, cond, not, ◌&&◌, ◌||◌, eqb, ltb, leb, List, [], ◌∷◌, length, sym, refl, ap, ◌∙◌, arith, ltb-false, lt-ltb, eqb-true, le-leb, leb-true}
use mathlib.Core.Bool.{false≢true}
use borrow.Author.Tests.{not-true}
use Rattle.octets.proofs.PlaceLaws.{first_true, second_true, either_false}
use Rattle.packets.specs.Instruction.{is_write, is_incrementing, is_read, is_rmw, header_size}
use Rattle.packets.specs.Header.{kind_in}
use Rattle.packets.specs.Reply.{carries_data, reply_length}
use Rattle.packets.specs.declared.instruction.Kind.{Kind}
use Rattle.packets.specs.declared.instruction.Kind.TheVariants.{Unused, Read, ReadModifyWrite, Write}
use Rattle.packets.specs.declared.header.Header.{Header}
use Rattle.packets.specs.declared.path.Path.{Path}
use Rattle.packets.proofs.ReadingLaws.{header_whole}
use Rattle.unit.specs.Some.{some}
use Rattle.unit.specs.Fate.{byte_of, is_success, fate_number, Status}
use Rattle.unit.specs.Windows.{holds, has_right, ends_past, allows, used}
use Rattle.unit.specs.Fields.{field_of}
use Rattle.unit.specs.Usable.{usable_unit, usable}
use Rattle.unit.specs.Given.{Arrived}
use Rattle.unit.specs.Decide.{span_size, is_authorised, field_count, is_field_length, header_status, wanted_count, all_at_hand, data_count, data_status_of}
use Rattle.unit.specs.Plan.{action_of, memory_action, field_action_of, reply_count, planned_for, decided}
use Rattle.unit.specs.Judge.{judged}
use Rattle.unit.specs.Granted.{Readable, Granted, Gatherable, Answerable, GrantedBy}
use Rattle.unit.specs.declared.judging.Sizes.{Sizes}
use Rattle.unit.specs.declared.windows.Window.{Window}
use Rattle.unit.specs.declared.windows.Windows.{Windows}
use Rattle.unit.specs.declared.decide.Action.{Action}
use Rattle.unit.specs.declared.decide.Action.TheVariants.{Nothing}
use Rattle.unit.specs.declared.decide.Plan.{Plan}
use Rattle.unit.specs.declared.unit.Unit.{Unit as TheUnit}
use Rattle.unit.proofs.FateLaws.{success_byte}
use Rattle.unit.proofs.FieldLaws.{named_last}
use Rattle.unit.proofs.JudgeLaws.{judged_is}
use Rattle.unit.proofs.PlanLaws.{action_is, memory_action_in, field_action_in, planned_is, decided_is, decided_has}
use Rattle.unit.proofs.DecideLaws.{writes, write_bit_is, memory_passed, fields_passed, span_passed, named_passed, names_length, data_passed}

-- ---- a span that a window holds is in memory, where no window ends past it

holds_room : (kind : Kind) (at size n : ℕ) (w : Window) → allows kind at size w ≡ true → ends_past n w ≡ false → at + size ≤ n
holds_room kind at size n w a e =
    let held = second_true (leb w.start at) (leb (at + size) w.end) (first_true (leb w.start at && leb (at + size) w.end) (has_right kind w) a) in
    let x = leb-true (at + size) w.end held in
    let y = ltb-false n w.end e in
    omega (arith, x, y)

pub window_room : (kind : Kind) (at size n : ℕ) (ws : List Window)
    → some (allows kind at size) ws ≡ true → some (ends_past n) ws ≡ false → at + size ≤ n
window_room kind at size n [] a e = absurd (false≢true a)
window_room kind at size n (w ∷ ws) a e =
    go (allows kind at size w) (ends_past n w) refl refl (window_room kind at size n ws)
  where
    Rest : Type 0
    Rest = some (allows kind at size) ws ≡ true → some (ends_past n) ws ≡ false → at + size ≤ n

    go : (s t : Bool) → allows kind at size w ≡ s → ends_past n w ≡ t → Rest → at + size ≤ n
    go s true f g rest = absurd (false≢true (sym e ∙ rw g))
    go true false f g rest = holds_room kind at size n w f g
    go false false f g rest = rest (rw f at a) (rw g at e)

pub usable_windows : (u : TheUnit) (n : ℕ) → usable u n ≡ true → some (ends_past n) (used u.windows) ≡ false
unfolding usable
usable_windows u n e =
    let past = some (ends_past n) (used u.windows) in
    let all = first_true (leb 1 n && leb n 65536 && not past) (usable_unit u) e in
    not-true past (second_true (leb 1 n && leb n 65536) (not past) all)

pub usable_size : (u : TheUnit) (n : ℕ) → usable u n ≡ true → n ≤ 65536
unfolding usable
usable_size u n e =
    let past = some (ends_past n) (used u.windows) in
    let all = first_true (leb 1 n && leb n 65536 && not past) (usable_unit u) e in
    leb-true n 65536 (second_true (leb 1 n) (leb n 65536) (first_true (leb 1 n && leb n 65536) (not past) all))

pub span_room : (u : TheUnit) (h : Header) (n : ℕ) → usable u n ≡ true → is_authorised u.windows h ≡ true → h.address + span_size h ≤ n
unfolding is_authorised
span_room u h n e a =
    let ws = used u.windows in
    let asked = some (allows (kind_in h) h.address (span_size h)) ws in
    window_room (kind_in h) h.address (span_size h) n ws (second_true (eqb h.extended 0) asked a) (usable_windows u n e)

-- ---- one window holds an authorised span, with the right

pub authorised_window : (w : Windows) (h : Header) → is_authorised w h ≡ true
    → some (λ x. holds x h.address (span_size h) && has_right (kind_in h) x) (used w) ≡ true
unfolding is_authorised
authorised_window w h =
    second_true (eqb h.extended 0) (some (λ x. holds x h.address (span_size h) && has_right (kind_in h) x) (used w))

pub authorised_extended : (w : Windows) (h : Header) → is_authorised w h ≡ true → h.extended ≡ 0
unfolding is_authorised
authorised_extended w h e =
    eqb-true h.extended 0
    (first_true (eqb h.extended 0) (some (λ x. holds x h.address (span_size h) && has_right (kind_in h) x) (used w)) e)

-- ---- the actions

memory_granted : (kind : Kind) (h : Header) (status : Status) (from k p n : ℕ) → from + k ≡ p
    → (is_success status ≡ true → k ≡ cond (is_read kind) 0 (h.length + 1))
    → (is_rmw kind && (ltb 8 h.length || not (eqb (h.length % 2) 0))) ≡ false
    → h.address + cond (is_rmw kind) (h.length / 2) (cond (is_incrementing h.instruction) h.length (min h.length 1)) ≤ n
    → Granted (action_of kind h status from k) p n
memory_granted kind h status from k p n ends e short r =
    action_is (λ a. Granted a p n) kind h status from k (tt, tt) (λ a b c. (rw (a, c) at r, tt)) (λ a b c. (rw (a, c) at r, tt))
    (λ a b.
    let q = rw a at r in
    let l = rw a at (e b) in
    let eight = ltb-false 8 h.length (either_false (ltb 8 h.length) (not (eqb (h.length % 2) 0)) (rw a at short)).0 in
    (q, (q, omega (arith, ends, l), omega (arith, eight))))
    (λ a c. let q = rw (a, c) at r in (tt, (omega (arith, q), omega (arith, ends))))
    (λ a c. let q = rw (a, c) at r in (tt, (omega (arith, q), omega (arith, ends))))

fields_granted : (kind : Kind) (h : Header) (p : List ℕ) (from size n : ℕ) → is_field_length kind h.length ≡ true
    → field_of h.address + field_count kind h.length ≤ 2 ^ 14 → Granted (field_action_of kind h p from) size n
fields_granted Unused h p from size n e r = (tt, tt)
fields_granted Read h p from size n e r =
    let l = leb-true h.length 64 (second_true (eqb (h.length % 4) 0 && leb 4 h.length) (leb h.length 64) e) in
    ((omega (arith, l), r), tt)
fields_granted ReadModifyWrite h p from size n e r = (tt, tt)
fields_granted Write h p from size n e r = (tt, tt)

-- ---- what is gathered into a reply

gatherable : (h : Header) (path : Path) (s : Status) (count room : ℕ) → is_success s ≡ true → is_write h.instruction ≡ false → count < 256 ^ 3
    → reply_length path h (byte_of s) count ≤ room → Gatherable count h path (byte_of s) room
gatherable h path s count room e w few fits =
    let c : carries_data h (byte_of s) ≡ true = rw (w, ← success_byte s) e in
    (c, rw (c, lt-ltb count (256 ^ 3) few, le-leb (reply_length path h (byte_of s) count) room fits))

memory_answerable : (h : Header) (path : Path) (s : Status) (from k n room : ℕ) → n ≤ 65536 → Readable (memory_action h s from k) n
    → reply_length path h (byte_of s) (cond (is_rmw (kind_in h)) (h.length / 2) h.length) ≤ room → Answerable (memory_action h s from k) h path (byte_of s) room
memory_answerable h path s from k n room size g r =
    action_is (λ a. Readable a n → Answerable a h path (byte_of s) room) (kind_in h) h s from k (λ x. tt)
    (λ a b c x. gatherable h path s h.length room b (write_bit_is h ∙ ap writes a) (omega (arith, size, x)) (rw a at r)) (λ a b c x. tt)
    (λ a b x. gatherable h path s (h.length / 2) room b (write_bit_is h ∙ ap writes a) (omega (arith, size, x)) (rw a at r)) (λ a c x. tt) (λ a c x. tt) g

field_answerable : (t : Bool) (kind : Kind) (h : Header) (p : List ℕ) (from : ℕ) (path : Path) (status room : ℕ)
    → Answerable (cond t (field_action_of kind h p from) Nothing) h path status room
field_answerable false kind h p from path status room = tt
field_answerable true Unused h p from path status room = tt
field_answerable true Read h p from path status room = tt
field_answerable true ReadModifyWrite h p from path status room = tt
field_answerable true Write h p from path status room = tt

-- ---- the plan

-- where the header allows the command
module _ (u : TheUnit) (h : Header) (path : Path) (p : Arrived) (n : ℕ) (works : usable u n ≡ true)
    (whole : header_size h.instruction ≤ length p.packet) where
  abbrev size : ℕ
  size = length p.packet

  pub accepted_memory : h.protocol ≡ 0x01 → is_success (header_status u h path p.link) ≡ true → Granted (memory_action_in h p) size n
  unfolding span_size wanted_count
  accepted_memory e s =
      let passed = span_passed u.windows h (memory_passed u h path p.link e s) in
      let span = span_room u h n works passed.1 in
      memory_granted (kind_in h) h (data_status_of h p) (header_size h.instruction) (data_count h (all_at_hand h p)) size n (omega arith)
      (λ t. (data_passed (data_count h (all_at_hand h p)) (all_at_hand h p).data_crc (wanted_count h) p.end t).1) passed.0 span

  pub accepted_field : (h.protocol ≡ 0x01 → ⊥) → is_success (header_status u h path p.link) ≡ true → Granted (field_action_in h p) size n
  accepted_field e s =
      let f = (named_passed u.owner h path p.link (fields_passed u h path p.link e s)).0 in
      let g = fields_granted (kind_in h) h p.packet (header_size h.instruction) size n (names_length h f) (named_last h f) in
      either (is_success (data_status_of h p)) g
    where
      either : (t : Bool) → Granted (field_action_of (kind_in h) h p.packet (header_size h.instruction)) size n
          → Granted (cond t (field_action_of (kind_in h) h p.packet (header_size h.instruction)) Nothing) size n
      either true g = g
      either false g = (tt, tt)

  pub granted : (room : ℕ) → Granted (decided u h path p room).action size n
  granted room =
      decided_has u h path (all_at_hand h p) p.end p.link room (λ s a. Granted a size n) (λ s. (tt, tt)) accepted_memory accepted_field

  -- and where it replies, the reply has room with what is gathered into it
  abbrev Fitting : ℕ → Plan → Type 0
  Fitting room plan = fate_number plan.fate ≡ 20 → Answerable plan.action h path (byte_of plan.status) room

  planned_fits : (s : Status) (a : Action) (room : ℕ) → (reply_length path h (byte_of s) (reply_count h) ≤ room → Answerable a h path (byte_of s) room)
      → Fitting room (planned_for h path s a room)
  planned_fits s a room f =
      planned_is h path s a room (Fitting room) (λ w l r. tt) (λ w l r. f l) (λ w e r. absurd (omega (arith, r))) (λ w o e r. absurd (omega (arith, r)))

  pub answerable : (room : ℕ) → Fitting room (decided u h path p room)
  unfolding reply_count
  answerable room =
      decided_is u h path (all_at_hand h p) p.end p.link room (Fitting room) (λ s. planned_fits (header_status u h path p.link) Nothing room (λ l. tt))
      (λ e s. planned_fits (data_status_of h p) (memory_action_in h p) room
      (memory_answerable h path (data_status_of h p) (header_size h.instruction) (data_count h (all_at_hand h p)) n room (usable_size u n works) (accepted_memory e s).0))
      (λ e s. planned_fits (data_status_of h p) (field_action_in h p) room
      (λ l. field_answerable (is_success (data_status_of h p)) (kind_in h) h p.packet (header_size h.instruction) path (byte_of (data_status_of h p)) room))

-- so a judgement allows what it rules
pub judged_allowed : (u : TheUnit) (p : Arrived) (sizes : Sizes)
    → GrantedBy (judged u p sizes) (length p.packet) sizes.memory sizes.reply
judged_allowed u p sizes =
    judged_is u p sizes (λ r. GrantedBy r (length p.packet) sizes.memory sizes.reply) (λ e. tt) (λ e f. tt) (λ e f why g. tt)
    (λ e f g w. tt) (λ e f g t w. tt)
    (λ e f c g.
    let whole = header_whole p.packet u.number c.header g in
    (granted u c.header c.path p sizes.memory e whole sizes.reply, answerable u c.header c.path p sizes.memory e whole sizes.reply))
