-- The help text and the version of the program.
use Rattle.std.specs.Prelude.{ℕ, List, ◌++◌, codes}

-- the commands with their options, the statuses and an example
abbrev pub help : List ℕ
help =
    codes "oil preprocesses a shader's text, or makes one shader out of several files.\n\n"
    ++ codes "oil pre FILE [NAME=VALUE..]\n"
    ++ codes "    prints what FILE's text becomes under these definitions and its own\n\n"
    ++ codes "oil pre --metadata FILE\n"
    ++ codes "    prints FILE's import path, the items that it uses of modules, its defines,\n"
    ++ codes "    and the names that its text may depend on. One a line, each field following a\n"
    ++ codes "    tab: path NAME, import MODULE ITEM.., define NAME VALUE, name NAME. In a\n"
    ++ codes "    field \\t, \\n, \\r and \\\\ stand for a tab, line ends and a backslash.\n\n"
    ++ codes "oil make [--override-any] TOP [MODULE..] [+NAME..] [NAME=VALUE..]\n"
    ++ codes "    prints the shader of the file TOP, made with the modules of other files.\n"
    ++ codes "    All are in the language of Mini.\n"
    ++ codes "    --override-any  lets any imported function be overridden, not only virtual\n"
    ++ codes "    +NAME           imports the module NAME besides what TOP's text uses\n\n"
    ++ codes "oil --help, oil --version\n"
    ++ codes "    print this, and the version\n\n"
    ++ codes "NAME=VALUE defines NAME as a number, as true or false, or as true if nothing\n"
    ++ codes "stands following the =. The file - is standard input, and ./- is a file named -.\n\n"
    ++ codes "Status 0: all was printed. Status 1: a text has a fault, which is reported on\n"
    ++ codes "standard error, or there is no memory, or a write failed. Status 2: the words\n"
    ++ codes "aren't understood, or a file can't be read.\n\n"
    ++ codes "Example: oil pre water.wgsl SCALE=4\n"

-- the program's name and its version
abbrev pub version : List ℕ
version = codes "oil 0.21.0\n"
