use Rattle.std.proofs.Common.{◌∙◌, ap}
use Rattle.serde_json.specs.Written.{compact_text}
use Rattle.glacier_replies.proofs.AsciiTexts.{iso_is_ascii}
use Rattle.glacier_replies.proofs.bodies.vault_body.Goals as goal

pub ascii_text-requires : goal.ascii_text-requires
ascii_text-requires c = rw c.iso_text-date.ensures (iso_is_ascii c.args.vault.now.created c.seconds.ensures.bound)

pub returns : goal.returns
returns c =
    c.from_vec.ensures ∙ c.in_ok-text.ensures.text c.in_ok-value.ensures.plain
    ∙ ap compact_text (rw (c.ascii_text.ensures, c.iso_text-date.ensures, c.deref.ensures, c.in_ok-arn.ensures, c.name_text.ensures, c.len-archives.ensures.len) at c.in_ok-value.ensures.value)
