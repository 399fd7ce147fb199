use Rattle.fields.specs.WholeNames as names
use Rattle.fields.proofs.names.good_name.Goals as goal

pub returns-then-ne : goal.returns-then-ne
returns-then-ne c = names.unnamed c.args.word.now c.token-lexed.result c.token-lexed.ensures c.ne.ensures c.then-ne.either

pub returns : goal.returns
returns c = names.named c.args.word.now c.token-lexed.result c.token-lexed.ensures c.if-ne.ensures c.if-lexed-ne0.false
