use Rattle.std.proofs.Common.{sym, ◌∙◌}
use Rattle.table.specs.declared.rule.Rule.TheVariants.{Letters, CsiU, OtherKeys, Cursor, RxvtArrows, ApplicationArrows, Functions, Editing, Single}
use Rattle.table.specs.Table.{cursor_keys, rxvt_keys, application_keys, editing_digits, entries_of}
use Rattle.table.specs.Told.{told}
use Rattle.table.proofs.Placed.{known, at_letters, at_csi_u, at_other_keys, at_cursor, at_rxvt_arrows, at_application_arrows, at_functions, at_editing}
use Rattle.table.proofs.place.key_in.Goals as goal

pub returns-in-Letters : goal.returns-in-Letters
returns-in-Letters c =
    known c.args.rule Letters c.in-Letters.is c.args.place c.requires (told c.letter_key.result) (λ h. c.letter_key.ensures ∙ sym (at_letters c.args.place h))

pub returns-in-CsiU : goal.returns-in-CsiU
returns-in-CsiU c =
    known c.args.rule CsiU c.in-CsiU.is c.args.place c.requires (told c.csi_u_key.result) (λ h. c.csi_u_key.ensures ∙ sym (at_csi_u c.args.place h))

pub returns-in-OtherKeys : goal.returns-in-OtherKeys
returns-in-OtherKeys c =
    known c.args.rule OtherKeys c.in-OtherKeys.is c.args.place c.requires (told c.other_key.result) (λ h. c.other_key.ensures ∙ sym (at_other_keys c.args.place h))

pub returns-in-Cursor : goal.returns-in-Cursor
unfolding cursor_keys
returns-in-Cursor c =
    known c.args.rule Cursor c.in-Cursor.is c.args.place c.requires (told c.cursor_key.result) (λ h. c.cursor_key.ensures ∙ sym (at_cursor c.args.place h))

pub returns-in-RxvtArrows : goal.returns-in-RxvtArrows
unfolding rxvt_keys
returns-in-RxvtArrows c =
    known c.args.rule RxvtArrows c.in-RxvtArrows.is c.args.place c.requires (told c.rxvt_key.result) (λ h. c.rxvt_key.ensures ∙ sym (at_rxvt_arrows c.args.place h))

pub returns-in-ApplicationArrows : goal.returns-in-ApplicationArrows
unfolding application_keys
returns-in-ApplicationArrows c =
    known c.args.rule ApplicationArrows c.in-ApplicationArrows.is c.args.place c.requires (told c.application_key.result) (λ h. c.application_key.ensures ∙ sym (at_application_arrows c.args.place h))

pub returns-in-Functions : goal.returns-in-Functions
returns-in-Functions c =
    known c.args.rule Functions c.in-Functions.is c.args.place c.requires (told c.function_key.result) (λ h. c.function_key.ensures ∙ sym (at_functions c.args.place h))

pub returns-in-Editing : goal.returns-in-Editing
unfolding editing_digits
returns-in-Editing c =
    known c.args.rule Editing c.in-Editing.is c.args.place c.requires (told c.editing_key.result) (λ h. c.editing_key.ensures ∙ sym (at_editing c.args.place h))

pub returns-in-Single : goal.returns-in-Single
unfolding entries_of
returns-in-Single c = known c.args.rule Single c.in-Single.is c.args.place c.requires (told c.single_key.result) (λ h. c.single_key.ensures)
