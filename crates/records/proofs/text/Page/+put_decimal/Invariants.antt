-- `records::text::Page::put_decimal` meets its contract: the last digit stands behind those of a tenth.
use Rattle.records.proofs.text.Page.+put_decimal.Given as goal

abbrev pub decreases-put_decimal : goal.decreases-put_decimal
decreases-put_decimal l = l.n
