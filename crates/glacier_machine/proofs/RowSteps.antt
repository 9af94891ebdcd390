-- The steps of rows, by how they came out.
use Rattle.std.specs.Prelude.{◌≡◌, None, Result, Ok, Err, OnOk, OnErr}
use Rattle.std.proofs.Common.{refl, ap, ◌∙◌}
use Rattle.glacier_http.specs.declared.reply.Reply.{Reply}
use Rattle.glacier_vault.specs.declared.event.Change.{Change}
use Rattle.glacier_vault.specs.declared.refusal.Refusal.{Refusal}
use Rattle.glacier_vault.specs.declared.state.AccountState.{AccountState}
use Rattle.glacier_vault.specs.Rows.{Row, answer, no_change, state_after}
use Rattle.glacier_machine.specs.declared.action.Answer.{Answer}
use Rattle.glacier_machine.specs.Steps.{only_replies, by_row, by_look}
use Rattle.glacier_replies.specs.Replies.{refused}

same_refusal : (one other : Refusal) → (let r : Result Change Refusal = Err one in let s : Result Change Refusal = Err other in r ≡ s) → one ≡ other
same_refusal one other is = cc

-- a refused row answers its refusal and leaves the account
pub step_refused : (before : AccountState) (row : Row Change) (reply : Reply) (refusal : Refusal) → answer row ≡ Err refusal
    → by_row before row reply ≡ only_replies before (refused refusal)
step_refused before (Ok done) reply refusal is = cc
step_refused before (Err other) reply refusal is = ap (λ r. only_replies before (refused r)) (same_refusal other refusal is)

pub state_refused : (before : AccountState) (row : Row Change) (refusal : Refusal) → answer row ≡ Err refusal → state_after before row ≡ before
state_refused before (Ok done) refusal is = cc
state_refused before (Err other) refusal is = refl

-- an accepted row answers its change with the reply, and leaves its state
pub step_accepted : (before : AccountState) (row : Row Change) (reply given : Reply) (change : Change) → given ≡ reply
    → answer row ≡ Ok change → record { reply = given; stretch = None; change = change } ≡ (by_row before row reply).answer
step_accepted before (Ok done) reply given change same is =
    let change_is : change ≡ done.1 = cc in
    ap (λ (r : Reply). let a : Answer = record { reply = r; stretch = None; change = change } in a) same
    ∙ ap (λ (c : Change). let a : Answer = record { reply = reply; stretch = None; change = c } in a) change_is
step_accepted before (Err other) reply given change same is = cc

pub state_of_row : (before : AccountState) (row : Row Change) (reply : Reply)
    → state_after before row ≡ (by_row before row reply).state
state_of_row before (Ok done) reply = refl
state_of_row before (Err refusal) reply = refl

-- a question is answered by what it finds, or by why there is nothing
pub look_found : {X : Type 0} (before : AccountState) (r : Result X Refusal) (reply : X → Reply) (x : X) (given : Reply) → r ≡ Ok x
    → given ≡ reply x → record { reply = given; stretch = None; change = no_change } ≡ (by_look before r reply).answer
look_found before (Ok y) reply x given is same =
    let x_is : x ≡ y = cc in
    ap (λ (r : Reply). let a : Answer = record { reply = r; stretch = None; change = no_change } in a) (same ∙ ap reply x_is)
look_found before (Err refusal) reply x given is same = cc

pub look_missing : {X : Type 0} (before : AccountState) (r : Result X Refusal) (reply : X → Reply) (refusal : Refusal) → r ≡ Err refusal
    → record { reply = refused refusal; stretch = None; change = no_change } ≡ (by_look before r reply).answer
look_missing before (Ok y) reply refusal is = cc
look_missing before (Err other) reply refusal is =
    let refusal_is : refusal ≡ other = cc in
    ap (λ (f : Refusal). let a : Answer = record { reply = refused f; stretch = None; change = no_change } in a) refusal_is

-- what holds at all holds after any result
pub on_ok_of : {X E P : Type 0} (r : Result X E) → P → OnOk r P
on_ok_of (Ok x) p = p
on_ok_of (Err e) p = tt

pub on_err_of : {X E P : Type 0} (r : Result X E) → P → OnErr r P
on_err_of (Ok x) p = tt
on_err_of (Err e) p = p
