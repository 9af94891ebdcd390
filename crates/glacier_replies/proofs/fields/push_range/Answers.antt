use Rattle.glacier_replies.proofs.fields.push_range.Goals as goal

pub returns : goal.returns
returns c =
    rw c.in-Some.is (rw (c.from_vec-text.ensures, c.into_bytes.ensures.value, c.in_ok-text.ensures) at c.push_field.ensures)
