use Rattle.std.proofs.Common.{◌≡◌, length}
use Rattle.netlist.specs.Netlist.{no_choice}
use Rattle.record.specs.Blocks.{choice_entry, menu_block}
use Rattle.record.proofs.Filled.{Reading}
use Rattle.record.proofs.Gathered.{Gathering}
use Rattle.record.proofs.cursor.Cursor.menus.Given as goal

abbrev pub invariant-loop-m : goal.invariant-loop-m
invariant-loop-m l =
    (l.cursor.bytes ≡ l.initial.cursor.bytes)
    × Gathering (menu_block l.supplies l.initial.cursor.bytes.now) (length l.initial.places) l.first l.initial.cursor.at l.m l.places l.cursor.at

abbrev pub invariant-loop-field : goal.invariant-loop-field
invariant-loop-field l =
    (l.cursor.bytes ≡ l.initial.cursor.bytes)
    × Reading no_choice 6 (choice_entry l.initial.cursor.bytes.now) l.map l.initial.cursor.at l._field l.left l.choices l.last l.cursor.at
