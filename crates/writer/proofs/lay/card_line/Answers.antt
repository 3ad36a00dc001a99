-- `card_line` meets its contract, card by card.
use Rattle.writer.proofs.lay.card_line.Goals as goal

pub returns-in-Wide : goal.returns-in-Wide
returns-in-Wide c = rw c.in-Wide.is c.word.ensures

pub returns-in-Small : goal.returns-in-Small
returns-in-Small c = rw c.in-Small.is c.word-in-Small.ensures
