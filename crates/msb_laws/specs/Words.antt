-- What lists of numbers stand for: texts in UTF-8, and what is written as such a text.
use Rattle.std.specs.Prelude.{ℕ, List}

-- a text, byte by byte
abbrev pub Text : Type 0
Text = List ℕ

-- the name of a property, an item type, a metadata, a target or a task
abbrev pub Name : Type 0
Name = List ℕ

-- the normal path of a file
abbrev pub Path : Type 0
Path = List ℕ

-- names, each with its value, in order
abbrev pub Pairs : Type 0
Pairs = List (Name × Text)
