-- `records::log::run` meets its contract: each turn is a step of the run that is promised (LoopLaws).
use Rattle.std.proofs.Common.{◌≡◌, ℕ, ◌-◌, leb, List, None, length, take, drop, sym, ap, ◌∙◌, rules}
use Rattle.records.specs.Run.{next_of, next_step, longest_line}
use Rattle.records.proofs.LoopLaws.{paired, rest_is, reached, has_line, got_next, stops_full, stops_silent, got_all}
use Rattle.records.proofs.RunLaws.{next_fits}
use Rattle.records.proofs.log.run.Goals as goal
use Rattle.records.proofs.log.run.Goals.{else-loop-rest-test, then-loop-rest-test+in_default}

pub say-used-requires : goal.say-used-requires
say-used-requires c =
    let l = c.loop-rest in
    let room = ap (leb (longest_line (length l.held.reply.now))) (sym c.room.ensures) ∙ sym c.has_room.ensures ∙ c.loop-rest-test.true in
    let s = take (length c.args.log.now - l.used) (drop l.used c.args.log.now) in
    let next = sym c.next_of.ensures ∙ c.in-Some.is in
    let is = ap (λ (s : List ℕ). next_of l.held.bench.stage s c.args.last) (sym (rest_is c.args.log.now l.used)) ∙ next in
    (has_line _ _ _ _ _ _ _ _ l.invariant room _ is, next_fits l.held.bench.stage s c.args.last _ next)

-- a turn: what holds after it, and that less is left to do
turns : goal.loop-rest-preserved × goal.loop-rest-smaller
turns =
    paired
    (λ c.
    let l = c.loop-rest in
    let a = c.args in
    let room = ap (leb (longest_line (length l.held.reply.now))) (sym c.room.ensures) ∙ sym c.has_room.ensures ∙ c.loop-rest-test.true in
    let is = ap (λ (s : List ℕ). next_of l.held.bench.stage s a.last) (sym (rest_is a.log.now l.used)) ∙ sym c.next_of.ensures ∙ c.in-Some.is in
    got_next a.log.now a.last _ _ _ l.held l.used l.page l.invariant room _ is _ _ _ (rw (rest_is a.log.now l.used) at c.say-used.ensures))

pub loop-rest-preserved : goal.loop-rest-preserved
loop-rest-preserved = turns.0

pub loop-rest-smaller : goal.loop-rest-smaller
loop-rest-smaller = turns.1

pub returns : goal.returns
returns c =
    let l = c.loop-rest in
    let a = c.args in
    let room = ap (leb (longest_line (length l.held.reply.now))) (sym c.room.ensures) ∙ sym c.has_room.ensures in
    let stops : next_step a.log.now a.last (length a.out.now) (reached l.held l.used l.page) ≡ None = elim c.loop-rest-test.branch [
      | else-loop-rest-test w ↦ stops_full _ _ _ _ _ l.held l.used l.page l.invariant (room ∙ w.loop-rest-test.false)
      | then-loop-rest-test+in_default w ↦ stops_silent _ _ _ _ _ l.held l.used l.page l.invariant
          (ap (λ (s : List ℕ). next_of l.held.bench.stage s a.last) (sym (rest_is a.log.now l.used)) ∙ sym w.next_of.ensures ∙ w.in_default.is)
    ] in
    let all = got_all a.log.now a.last _ _ _ l.held l.used l.page l.invariant stops in
    let lent = l.invariant.lent in
    record {
      answers = all.0;
      within = all.1.0;
      stores = search (rules, all.1.1.0, lent.memory);
      replies = search (rules, all.1.1.1.0, lent.reply);
      prints = search (rules, all.1.1.1.1, l.invariant.same_reference);
    }
