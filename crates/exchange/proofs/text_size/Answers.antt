-- `exchange::text_size` meets its contract: the place behind the text of accepted words, which is short. Assumes
-- nothing.
use Rattle.std.proofs.Common.{arith}
use Rattle.rules.specs.Refusal.{problem_refusal}
use Rattle.rules.specs.Sizes.{most_rows}
use Rattle.rules.proofs.Exchange.Lengths.{script-short}
use Rattle.rules.proofs.Refusal.Exactly.{accepted-exactly}
use Rattle.exchange.proofs.text_size.Goals as goal

pub put_script-requires-clause-room : goal.put_script-requires-clause-room
unfolding problem_refusal
put_script-requires-clause-room c =
    let accepted = (accepted-exactly most_rows c.args.words.now).0 c.requires in
    record { room = omega (arith, c.new-measured.ensures.place, script-short (omega arith) accepted) }
