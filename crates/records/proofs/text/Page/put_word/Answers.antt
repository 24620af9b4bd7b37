-- `records::text::Page::put_word` meets its contract: a word, and a number behind it.
use Rattle.records.proofs.TextLaws.{put_then}
use Rattle.records.proofs.text.Page.put_word.Goals as goal

pub returns : goal.returns
returns c = put_then c.put.ensures c.requires c.put_number.ensures
