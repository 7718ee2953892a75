use Rattle.replies.proofs.Dumps.{dump_text}
use Rattle.replies.proofs.dump.reply_dump.Goals as goal

pub returns : goal.returns
returns c =
    dump_text c.args.line c.args.standing.now.present.version c.version.result c.args.standing.now.present.horizon c.horizon.result c.len.result
    c.args.standing.now.present.premises c.in_ok-out.out.items c.put_premises.new.out.items c.in_ok-out.ensures c.len.ensures.value c.version.ensures
    c.horizon.ensures c.in_ok-put_premises.ensures
