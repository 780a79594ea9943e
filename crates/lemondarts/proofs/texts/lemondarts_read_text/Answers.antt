-- `lemondarts::texts::lemondarts_read_text` meets its contract.
use Rattle.lemondarts.proofs.texts.lemondarts_read_text.Goals as goal

pub returns : goal.returns
returns c =
    record {
      answer = _;
      reads = c.read_text.ensures.0;
      number = c.text_number.ensures;
    }
