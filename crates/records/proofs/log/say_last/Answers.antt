-- `records::log::say_last` meets its contract: by the test whether bytes are left.
use Rattle.std.proofs.Common.{[], ◌∷◌, refl, arith}
use Rattle.records.proofs.TextLaws.{word_length}
use Rattle.records.proofs.log.say_last.Goals as goal

pub put_word-requires : goal.put_word-requires
put_word-requires c =
    omega (arith, word_length (0x65 ∷ 0x6E ∷ 0x64 ∷ 0x20 ∷ []) c.args.bench.items refl, c.requires)

pub put_word-requires-2 : goal.put_word-requires-2
put_word-requires-2 c =
    omega (arith, word_length (0x62 ∷ 0x61 ∷ 0x64 ∷ 0x20 ∷ []) c.args.bench.offset refl, c.requires)
