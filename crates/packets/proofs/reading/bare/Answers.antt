-- `packets::reading::bare` meets its contract: it begins so, or does not.
use Rattle.std.proofs.Common.{sym, ◌∙◌, length, drop, ◌-◌, arith, [], ◌∷◌}
use Rattle.std.proofs.lemmas.Bool.{false≢true}
use Rattle.std.proofs.lemmas.Bool.Decides.{Decides-eqb}
use Rattle.std.proofs.lemmas.Slice.Eq.{starts_is}
use lib.ListN.{length-drop}
use lib.Seq.{take_all}
use Rattle.packets.proofs.BareLaws.{bare_begins, bare_other}
use Rattle.packets.proofs.reading.bare.Goals as goal

pub returns-then-starts_with : goal.returns-then-starts_with
returns-then-starts_with c =
    let p = c.args.packet.now in
    let begins = (starts_is Decides-eqb p (0x00 ∷ 0xFE ∷ 0x03 ∷ []) c.starts_with.result c.starts_with.ensures.value).0 c.if-starts_with.true in
    take_all (length p - 1) (drop 1 p) (omega (arith, length-drop 1 p)) ∙ bare_begins p (drop 3 p) begins

pub returns-else-starts_with : goal.returns-else-starts_with
returns-else-starts_with c =
    let p = c.args.packet.now in
    let begins = (starts_is Decides-eqb p (0x00 ∷ 0xFE ∷ 0x03 ∷ []) c.starts_with.result c.starts_with.ensures.value).1 in
    sym (bare_other p (λ q e. false≢true (sym c.if-starts_with.false ∙ begins q e)))
